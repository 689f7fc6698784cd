use Rattle.std.proofs.Common.{arith, rules, ◌≡◌, ◌+◌, ◌-◌, ◌<◌, ◌≤◌, Bool, if◌then◌else◌, length, min, take, drop, ℕ, List, [], ap, refl, subst, sym, ◌∙◌}
use Rattle.std.proofs.lemmas.List.{drop-drop, drop_all, length-drop, take_all}
use Rattle.std.specs.Vec.Iter.{into_iter_items}
use Rattle.aio_base.specs.declared.connections.Did.TheVariants.{Bytes, Blocked}
use Rattle.aio_conns.specs.Given.{Turn, GivingValue, GivesTurn, Reads, HasTurn, bytes_before, turn_before, turns_of}
use Rattle.aio_conns.specs.declared.pieces.Piece.{Piece}
use Rattle.aio_conns.specs.declared.pieces.Piece.TheVariants as pieces
use Rattle.aio_conns.proofs.Turns.{gives-block, gives-front, gives-none}
use Rattle.aio_conns.proofs.giving.Giving.read.Goals as goal

-- the piece that is begun is used up, and the front of the next one is read
pub returns-in-Some-Bytes-clause-reads : goal.returns-in-Some-Bytes-clause-reads
returns-in-Some-Bytes-clause-reads c =
    let piece = c.in-Some-Bytes.bytes.items in
    let count = c.copy_front-count-in-Some-Bytes.result in
    let room = length c.args.buf.now in
    let rest : List Turn = turns_of (into_iter_items c.next_piece.new.pieces) in
    let old : GivingValue = record { turns = bytes_before (drop c.self.inside.read c.self.inside.begun.items) (turns_of (into_iter_items c.self.inside.left)); ends = c.self.inside.ends } in
    let new : GivingValue = record { turns = bytes_before (drop count piece) rest; ends = c.self.inside.ends } in
    let used : length c.self.inside.begun.items ≤ c.self.inside.read = search rules in
    let found : HasTurn (pieces.Bytes c.in-Some-Bytes.bytes) × (turns_of (into_iter_items c.self.inside.left) ≡ bytes_before piece rest) =
    subst (λ (whole : Piece). HasTurn whole × (turns_of (into_iter_items c.self.inside.left) ≡ turn_before whole rest))
    c.in-Some-Bytes.field-0-is c.in-Some-Bytes.ensures.some in
    let counted : count ≡ min room (length piece) = c.copy_front-count-in-Some-Bytes.ensures.count ∙ ap (λ (bytes : List ℕ). min room (length bytes)) c.deref-in-Some-Bytes.ensures.value in
    let copied : take count piece ≡ take count c.copy_front-count-in-Some-Bytes.new.to =
    sym (c.copy_front-count-in-Some-Bytes.ensures.copied ∙ ap (take count) c.deref-in-Some-Bytes.ensures.value) in
    let before : bytes_before piece rest ≡ old.turns =
    sym (ap (λ (bytes : List ℕ). bytes_before bytes (turns_of (into_iter_items c.self.inside.left))) (drop_all c.self.inside.read c.self.inside.begun.items used) ∙ found.1) in
    let front : GivesTurn c.self.inside.ends (bytes_before piece rest) room (Bytes count) (take count piece) new.turns =
    gives-front c.self.inside.ends piece rest room count found.0 counted in
    subst (λ (value : GivingValue). Reads value room (Bytes count) (take count c.copy_front-count-in-Some-Bytes.new.to) new) c.self.view_is
    (record {
      gives = subst (λ (turns : List Turn). GivesTurn c.self.inside.ends turns room (Bytes count) (take count c.copy_front-count-in-Some-Bytes.new.to) new.turns) before
          (subst (λ (bytes : List ℕ). GivesTurn c.self.inside.ends (bytes_before piece rest) room (Bytes count) bytes new.turns) copied front);
      ends = refl;
    })

-- the piece that is begun is read on
pub returns-then-self-len-clause-reads : goal.returns-then-self-len-clause-reads
returns-then-self-len-clause-reads c =
    let begun = c.self.inside.begun.items in
    let at = c.self.inside.read in
    let ends = c.self.inside.ends in
    let seen = c.deref.result.now in
    let count = c.copy_front-count.result in
    let room = length c.args.buf.now in
    let turns : List Turn = turns_of (into_iter_items c.self.inside.left) in
    let piece : List ℕ = drop at begun in
    let more : at < length begun = search rules in
    let behind : take (length seen - at) (drop at seen) ≡ piece =
    take_all (length seen - at) (drop at seen) (omega (arith, length-drop at seen)) ∙ ap (drop at) c.deref.ensures.value in
    let counted : count ≡ min room (length piece) = c.copy_front-count.ensures.count ∙ ap (λ (bytes : List ℕ). min room (length bytes)) behind in
    let copied : take count piece ≡ take count c.copy_front-count.new.to = sym (c.copy_front-count.ensures.copied ∙ ap (take count) behind) in
    let front : GivesTurn ends (bytes_before piece turns) room (Bytes count) (take count piece) (bytes_before (drop count piece) turns) =
    gives-front ends piece turns room count (omega (arith, more, length-drop at begun)) counted in
    let new : GivingValue = record { turns = bytes_before (drop (at + count) begun) turns; ends = ends } in
    subst (λ (value : GivingValue). Reads value room (Bytes count) (take count c.copy_front-count.new.to) new) c.self.view_is
    (record {
      gives = subst (λ (left : List ℕ). GivesTurn ends (bytes_before piece turns) room (Bytes count) (take count c.copy_front-count.new.to) (bytes_before left turns))
          (drop-drop count at begun)
          (subst (λ (bytes : List ℕ). GivesTurn ends (bytes_before piece turns) room (Bytes count) bytes (bytes_before (drop count piece) turns)) copied front);
      ends = refl;
    })

-- no turn is left
pub returns-in-None-clause-reads : goal.returns-in-None-clause-reads
returns-in-None-clause-reads c =
    let begun = c.self.inside.begun.items in
    let at = c.self.inside.read in
    let ends = c.self.inside.ends in
    let room = length c.args.buf.now in
    let later : List Turn = turns_of (into_iter_items c.next_piece.new.pieces) in
    let used : length begun ≤ at = search rules in
    let new : GivingValue = record { turns = bytes_before (drop at begun) later; ends = ends } in
    subst (λ (value : GivingValue). Reads value room (Bytes 0) [] new) c.self.view_is
    (record {
      gives = gives-none ends (drop at begun) (turns_of (into_iter_items c.self.inside.left)) later room (Bytes 0) (drop_all at begun used)
          c.in-None.ensures.none.0 c.in-None.ensures.none.1 (sym (ap (λ (b : Bool). if b then Bytes 0 else Blocked) c.if-self.true));
      ends = refl;
    })

pub returns-in-None-2-clause-reads : goal.returns-in-None-2-clause-reads
returns-in-None-2-clause-reads c =
    let begun = c.self.inside.begun.items in
    let at = c.self.inside.read in
    let ends = c.self.inside.ends in
    let room = length c.args.buf.now in
    let later : List Turn = turns_of (into_iter_items c.next_piece.new.pieces) in
    let used : length begun ≤ at = search rules in
    let new : GivingValue = record { turns = bytes_before (drop at begun) later; ends = ends } in
    subst (λ (value : GivingValue). Reads value room Blocked [] new) c.self.view_is
    (record {
      gives = gives-none ends (drop at begun) (turns_of (into_iter_items c.self.inside.left)) later room Blocked (drop_all at begun used)
          c.in-None.ensures.none.0 c.in-None.ensures.none.1 (sym (ap (λ (b : Bool). if b then Bytes 0 else Blocked) c.if-self.false));
      ends = refl;
    })

-- one read is blocked
pub returns-in-Some-Block-clause-reads : goal.returns-in-Some-Block-clause-reads
returns-in-Some-Block-clause-reads c =
    let begun = c.self.inside.begun.items in
    let at = c.self.inside.read in
    let ends = c.self.inside.ends in
    let room = length c.args.buf.now in
    let old : List Turn = turns_of (into_iter_items c.self.inside.left) in
    let later : List Turn = turns_of (into_iter_items c.next_piece.new.pieces) in
    let used : length begun ≤ at = search rules in
    let first : old ≡ turn_before pieces.Block later =
    subst (λ (piece : Piece). old ≡ turn_before piece later) c.in-Some-Block.field-0-is c.in-Some-Block.ensures.some.1 in
    let new : GivingValue = record { turns = bytes_before (drop at begun) later; ends = ends } in
    subst (λ (value : GivingValue). Reads value room Blocked [] new) c.self.view_is
    (record { gives = gives-block ends (drop at begun) old later room (drop_all at begun used) first; ends = refl })
