-- What stands of a connection that was just made.
use Rattle.std.proofs.Common.{arith, ◌≡◌, ℕ, ◌+◌, ◌^◌, ◌<◌, ◌==◌, Bool, true, false, not, ◌&&◌, if◌then◌else◌, List, [], ◌∷◌, ◌++◌, length, None, Some, refl, sym, ap, subst, ◌∙◌}
use Rattle.std.proofs.lemmas.Bool.{false≢true}
use Rattle.std.proofs.lemmas.List.{length-append}
use Rattle.std.specs.List.{list_any}
use Rattle.aio_base.specs.declared.names.Interest.{Interest}
use Rattle.aio_conns.specs.Connections.{IsConn, is_prompt}
use Rattle.aio_conns.specs.Given.{Turn, NoneBlocks, bytes_before, bytes_left, is_block, total_bytes, turns_of}
use Rattle.aio_conns.specs.Sent.{new_sending}
use Rattle.aio_conns.specs.declared.pieces.Piece.{Piece}
use Rattle.aio_conns.specs.declared.pieces.Piece.TheVariants.{Bytes, Block}
use Rattle.aio_conns.proofs.Telling.{none-before}

none-of-them : (pieces : List Piece) → list_any is_block pieces ≡ false → NoneBlocks (turns_of pieces)
none-of-them [] none = tt
none-of-them (Bytes bytes ∷ pieces) none = none-before bytes.items (turns_of pieces) (none-of-them pieces none)
none-of-them (Block ∷ pieces) none = absurd (false≢true (sym none))

-- the bytes of the pieces are those that are left
left-of : (bytes : List ℕ) (turns : List Turn) → length (bytes_left (bytes_before bytes turns)) ≡ length bytes + length (bytes_left turns)
left-of [] turns = omega arith
left-of (byte ∷ bytes) turns =
    let rest : length (bytes ++ bytes_left turns) ≡ length bytes + length (bytes_left turns) = length-append bytes (bytes_left turns) in
    omega arith

all-left : (pieces : List Piece) → length (bytes_left (turns_of pieces)) ≡ total_bytes pieces
all-left [] = refl
all-left (Bytes bytes ∷ pieces) = left-of bytes.items (turns_of pieces) ∙ ap (λ (count : ℕ). length bytes.items + count) (all-left pieces)
all-left (Block ∷ pieces) =
    let rest : length (bytes_left (turns_of pieces)) ≡ total_bytes pieces = all-left pieces in
    omega arith

all-three : (blocks ends unbounded : Bool) → (not blocks && (ends && unbounded)) ≡ true → (blocks ≡ false) × (ends ≡ true) × (unbounded ≡ true)
all-three false true true h = (refl, refl, refl)
all-three false true false h = absurd (false≢true h)
all-three false false unbounded h = absurd (false≢true h)
all-three true ends unbounded h = absurd (false≢true h)

-- a new connection, with any interests
pub new-stands : (pieces : List Piece) (ends : Bool) (at_once room : ℕ) (armed : List Interest) → total_bytes pieces < 2 ^ 64
    → IsConn (record {
      giving = record { turns = turns_of pieces; ends = ends };
      sending = new_sending at_once room;
      prompt = is_prompt pieces ends room;
      armed = armed;
    })
new-stands pieces ends at_once room armed short = record {
  bounded = subst (λ (count : ℕ). count < 2 ^ 64) (sym (all-left pieces)) short;
  reads = λ prompt.
      let three = all-three (list_any is_block pieces) ends (room == 4294967295) prompt in
      record { turns = none-of-them pieces three.0; ends = three.1 };
  writes = λ prompt.
      let three = all-three (list_any is_block pieces) ends (room == 4294967295) prompt in
      ap (λ (unbounded : Bool). if unbounded then None else Some room) three.2;
}
