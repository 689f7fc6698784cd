-- What a connection in memory tells is what its calls make of it.
use Rattle.std.proofs.Common.{arith, ◌≡◌, ℕ, zero, suc, ◌+◌, ◌^◌, ◌<◌, Bool, true, false, if◌then◌else◌, IsTrue, List, [], ◌∷◌, ◌++◌, length, take, drop, Option, None, Some, IfSome, Result, Ok, Err, refl, sym, ap, subst, ◌∙◌}
use Rattle.std.proofs.lemmas.Bool.{false≢true, lt-ltb}
use Rattle.std.proofs.lemmas.List.{append_assoc, take-append-drop, length-append}
use Rattle.aio_base.specs.Connections.{IsAtItsEnd, Joins, ReadTells, Takes, WriteTells, did_count}
use Rattle.aio_base.specs.declared.connections.Did.{Did}
use Rattle.aio_base.specs.declared.connections.Did.TheVariants.{Bytes, Blocked}
use Rattle.aio_base.specs.declared.outcomes.Failed.{Failed}
use Rattle.aio_conns.specs.Connections.{ConnValue, IsConn, telling_of, told_left}
use Rattle.aio_conns.specs.Given.{Turn, Gives, Blocks, GivesTurn, GivingValue, NoneBlocks, Reads, bytes_before, bytes_left}
use Rattle.aio_conns.specs.Sent.{SendingValue, Writes, count_taken, told_count, told_sent}

-- ## Reads

abbrev has_blocked : Did → Bool
has_blocked (Bytes n) = false
has_blocked Blocked = true

bytes-are-no-block : (n : ℕ) → (Bytes n ≡ Blocked) → ⊥
bytes-are-no-block n same = false≢true (ap has_blocked same)

blocked-is-no-end : (Blocked ≡ Bytes 0) → ⊥
blocked-is-no-end same = false≢true (sym (ap has_blocked same))

left-before : (bytes : List ℕ) (turns : List Turn) → bytes_left (bytes_before bytes turns) ≡ bytes ++ bytes_left turns
left-before [] turns = refl
left-before (byte ∷ bytes) turns = refl

-- what was read were the first bytes that were left
pub first-read : (ends : Bool) (turns : List Turn) (room : ℕ) (answer : Did) (bytes : List ℕ) (left : List Turn)
    → GivesTurn ends turns room answer bytes left → bytes_left turns ≡ bytes ++ bytes_left left
first-read ends [] room answer bytes left h = rw (h.1, h.2) refl
first-read ends (Blocks ∷ turns) room answer bytes left h = rw (h.1, h.2) refl
first-read ends (Gives byte piece ∷ turns) room answer bytes left h =
    let parts : take room (byte ∷ piece) ++ drop room (byte ∷ piece) ≡ byte ∷ piece = take-append-drop room (byte ∷ piece) in
    let joined : (byte ∷ piece) ++ bytes_left turns ≡ take room (byte ∷ piece) ++ (drop room (byte ∷ piece) ++ bytes_left turns) =
    ap (λ (whole : List ℕ). whole ++ bytes_left turns) (sym parts) ∙ append_assoc (take room (byte ∷ piece)) (drop room (byte ∷ piece)) (bytes_left turns) in
    rw (h.1, h.2, left-before (drop room (byte ∷ piece)) turns) joined

-- the end comes where nothing is left
pub ends-where : (ends : Bool) (turns : List Turn) (room : ℕ) (answer : Did) (bytes : List ℕ) (left : List Turn)
    → 0 < room → GivesTurn ends turns room answer bytes left → answer ≡ Bytes 0 → (bytes_left left ≡ []) × IsTrue ends
ends-where true [] room answer bytes left some h end = (ap bytes_left h.2, refl)
ends-where false [] room answer bytes left some h end = absurd (blocked-is-no-end (sym h.0 ∙ end))
ends-where ends (Blocks ∷ turns) room answer bytes left some h end = absurd (blocked-is-no-end (sym h.0 ∙ end))
ends-where ends (Gives byte piece ∷ turns) zero answer bytes left some h end = absurd (omega (arith, some))
ends-where ends (Gives byte piece ∷ turns) (suc room) answer bytes left some h end =
    let none : length bytes ≡ 0 = ap (λ (d : Did). did_count (Ok d)) (sym h.0 ∙ end) in
    let one : length bytes ≡ suc (length (take room piece)) = ap length h.1 in
    absurd (omega arith)

-- a connection whose reads never block gives bytes or the end, and goes on so
pub never-blocks : (ends : Bool) (turns : List Turn) (room : ℕ) (answer : Did) (bytes : List ℕ) (left : List Turn)
    → GivesTurn ends turns room answer bytes left → NoneBlocks turns → IsTrue ends → ¬ (answer ≡ Blocked)
never-blocks true [] room answer bytes left h turns ends blocked = bytes-are-no-block 0 (sym h.0 ∙ blocked)
never-blocks false [] room answer bytes left h turns ends blocked = false≢true ends
never-blocks ends (Gives byte piece ∷ turns) room answer bytes left h none is blocked = bytes-are-no-block (length bytes) (sym h.0 ∙ blocked)
never-blocks ends (Blocks ∷ turns) room answer bytes left h none is blocked = none

pub none-before : (bytes : List ℕ) (turns : List Turn) → NoneBlocks turns → NoneBlocks (bytes_before bytes turns)
none-before [] turns none = none
none-before (byte ∷ bytes) turns none = none

pub none-blocks : (ends : Bool) (turns : List Turn) (room : ℕ) (answer : Did) (bytes : List ℕ) (left : List Turn)
    → GivesTurn ends turns room answer bytes left → NoneBlocks turns → NoneBlocks left
none-blocks ends [] room answer bytes left h none = subst NoneBlocks (sym h.2) tt
none-blocks ends (Gives byte piece ∷ turns) room answer bytes left h none =
    subst NoneBlocks (sym h.2) (none-before (drop room (byte ∷ piece)) turns none)
none-blocks ends (Blocks ∷ turns) room answer bytes left h none = absurd none

-- fewer than 2^64 bytes are told
left-told : (bytes : List ℕ) → length bytes < 2 ^ 64 → told_left bytes ≡ Some bytes
left-told bytes short = ap (λ (told : Bool). if told then Some bytes else None) (lt-ltb (length bytes) (2 ^ 64) short)

-- the bytes that were read are told no longer
fewer : (old bytes new : List ℕ) → old ≡ bytes ++ new → length old < 2 ^ 64 → length new < 2 ^ 64
fewer old bytes new taken short =
    let lengths : length old ≡ length bytes + length new = ap length taken ∙ length-append bytes new in
    omega arith

left-taken : (old bytes new : List ℕ) → old ≡ bytes ++ new → length old < 2 ^ 64 → Takes (told_left old) (told_left new) bytes
left-taken old bytes new taken short =
    rw (left-told old short, left-told new (fewer old bytes new taken short)) taken

abbrev did_of : Result Did Failed → Did
did_of (Ok d) = d
did_of (Err failed) = Blocked

at-end : (bytes : List ℕ) (ends prompt : Bool) (sent : Option (List ℕ)) → bytes ≡ [] → IsTrue ends
    → IsAtItsEnd (record { left = told_left bytes; ends = ends; sent = sent; prompt = prompt })
at-end bytes ends prompt sent none is = subst (λ left. IfSome (told_left left) (λ b. (b ≡ []) × IsTrue ends)) (sym none) (refl, is)

-- what a connection tells after a read
pub reads-tell : (old : ConnValue) (room : ℕ) (answer : Did) (bytes : List ℕ) (giving : GivingValue) → IsConn old → 0 < room
    → Reads old.giving room answer bytes giving
    → ReadTells (telling_of old) (telling_of (record old { giving = giving })) bytes
    (◌≡◌ {A = Result Did Failed} (Ok answer) (Ok Blocked)) (◌≡◌ {A = Result Did Failed} (Ok answer) (Ok (Bytes 0)))
reads-tell old room answer bytes giving is some h =
    let first : bytes_left old.giving.turns ≡ bytes ++ bytes_left giving.turns =
    first-read old.giving.ends old.giving.turns room answer bytes giving.turns h.gives in
    record {
      taken = left-taken (bytes_left old.giving.turns) bytes (bytes_left giving.turns) first is.bounded;
      at_end = λ end.
          let found = ends-where old.giving.ends old.giving.turns room answer bytes giving.turns some h.gives (ap did_of end) in
          at-end (bytes_left giving.turns) giving.ends old.prompt (told_sent old.sending) found.0 (h.ends ∙ found.1);
      ends = h.ends;
      sent = refl;
      prompt = refl;
      never = λ prompt blocked. never-blocks old.giving.ends old.giving.turns room answer bytes giving.turns h.gives
          (is.reads prompt).turns (is.reads prompt).ends (ap did_of blocked);
    }

-- what stands of a connection stands after a read
pub reads-keep : (old : ConnValue) (room : ℕ) (answer : Did) (bytes : List ℕ) (giving : GivingValue) → IsConn old
    → Reads old.giving room answer bytes giving → IsConn (record old { giving = giving })
reads-keep old room answer bytes giving is h =
    let first : bytes_left old.giving.turns ≡ bytes ++ bytes_left giving.turns =
    first-read old.giving.ends old.giving.turns room answer bytes giving.turns h.gives in
    record {
      bounded = fewer (bytes_left old.giving.turns) bytes (bytes_left giving.turns) first is.bounded;
      reads = λ prompt. record {
        turns = none-blocks old.giving.ends old.giving.turns room answer bytes giving.turns h.gives (is.reads prompt).turns;
        ends = h.ends ∙ (is.reads prompt).ends;
      };
      writes = is.writes;
    }

-- ## Writes

joins-by : (before after : Bool) (old new bytes : List ℕ) → new ≡ (if after then old ++ bytes else old) → (IsTrue after → IsTrue before)
    → (bytes ≡ [] → after ≡ before) → Joins (if before then Some old else None) (if after then Some new else None) bytes
joins-by true true old new bytes is later keeps = is
joins-by true false old new bytes is later keeps = λ none. false≢true (keeps none)
joins-by false true old new bytes is later keeps = absurd (false≢true (later refl))
joins-by false false old new bytes is later keeps = tt

-- a write that takes no byte of a piece that has some takes none at all
takes-none : (count : ℕ) (piece : List ℕ) → 0 < length piece → take count piece ≡ [] → count ≡ 0
takes-none zero piece some none = refl
takes-none (suc count) [] some none = absurd (omega (arith, some))
takes-none (suc count) (byte ∷ piece) some none = absurd (omega (arith, ap length none))

count-told : (count : ℕ) → did_count (Ok (told_count count)) ≡ count
count-told zero = refl
count-told (suc count) = refl

-- what a connection tells after a write
pub writes-tell : (old : ConnValue) (piece : List ℕ) (answer : Did) (sending : SendingValue) → IsConn old
    → 0 < length piece → Writes old.sending piece answer sending → (old.sending.room ≡ None → ¬ (answer ≡ Blocked))
    → WriteTells (telling_of old) (telling_of (record old { sending = sending })) (take (did_count (Ok answer)) piece)
    (◌≡◌ {A = Result Did Failed} (Ok answer) (Ok Blocked))
writes-tell old piece answer sending is some h never =
    let taken = take (count_taken old.sending (length piece)) piece in
    let count : did_count (Ok answer) ≡ count_taken old.sending (length piece) =
    ap (λ (d : Did). did_count (Ok d)) h.told ∙ count-told (count_taken old.sending (length piece)) in
    record {
      joined = subst (λ n. Joins (told_sent old.sending) (told_sent sending) (take n piece)) (sym count)
          (joins-by old.sending.tells sending.tells old.sending.sent sending.sent taken h.sent h.tells
          (λ (none : taken ≡ []). ap (λ (s : SendingValue). s.tells)
          (h.stays (h.told ∙ ap told_count (takes-none (count_taken old.sending (length piece)) piece some none)))));
      left = refl;
      ends = refl;
      prompt = refl;
      never = λ prompt blocked. never (is.writes prompt) (ap did_of blocked);
    }
