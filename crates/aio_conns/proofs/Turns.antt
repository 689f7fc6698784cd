-- What a read takes of the piece that is begun.
use Rattle.std.proofs.Common.{arith, ◌≡◌, ℕ, ◌<◌, ◌≤◌, Bool, List, [], ◌∷◌, length, take, drop, min, if◌then◌else◌, refl, sym, ap, ◌∙◌, ⊎_elim}
use Rattle.std.proofs.lemmas.Bool.{cases_lt}
use Rattle.std.proofs.lemmas.List.{take_all, drop_all, length-take-le}
use Rattle.aio_base.specs.declared.connections.Did.{Did}
use Rattle.aio_base.specs.declared.connections.Did.TheVariants.{Bytes, Blocked}
use Rattle.aio_conns.specs.Given.{Turn, Blocks, GivesTurn, bytes_before}

-- as many as there are, or as there is room for: the same front and the same rest
same-front : (bytes : List ℕ) (room count : ℕ) → count ≡ min room (length bytes) → (take count bytes ≡ take room bytes) × (drop count bytes ≡ drop room bytes)
same-front bytes room count is =
    ⊎_elim
    (λ (less : room < length bytes). let same : count ≡ room = omega arith in (ap (λ n. take n bytes) same, ap (λ n. drop n bytes) same))
    (λ (more : length bytes ≤ room).
    let whole : length bytes ≤ count = omega arith in
    (take_all count bytes whole ∙ sym (take_all room bytes more), drop_all count bytes whole ∙ sym (drop_all room bytes more)))
    (cases_lt room (length bytes))

front-length : (bytes : List ℕ) (room count : ℕ) → count ≡ min room (length bytes) → length (take count bytes) ≡ count
front-length bytes room count is =
    let within : count ≤ length bytes = omega arith in
    length-take-le count bytes within

-- a read of a piece that has bytes left
pub gives-front : (ends : Bool) (piece : List ℕ) (turns : List Turn) (room count : ℕ) → 0 < length piece → count ≡ min room (length piece)
    → GivesTurn ends (bytes_before piece turns) room (Bytes count) (take count piece) (bytes_before (drop count piece) turns)
gives-front ends [] turns room count some is = absurd (omega (arith, some))
gives-front ends (byte ∷ bytes) turns room count some is =
    let same = same-front (byte ∷ bytes) room count is in
    (ap Bytes (sym (front-length (byte ∷ bytes) room count is)), same.0, ap (λ rest. bytes_before rest turns) same.1)

-- a read once the piece that was begun is used up, and no turn is left
pub gives-none : (ends : Bool) (piece : List ℕ) (old new : List Turn) (room : ℕ) (answer : Did) → piece ≡ [] → old ≡ [] → new ≡ []
    → answer ≡ (if ends then Bytes 0 else Blocked) → GivesTurn ends (bytes_before piece old) room answer [] (bytes_before piece new)
gives-none ends piece old new room answer used none later answered = rw (used, none, later) (answered, refl, refl)

-- a read once the piece that was begun is used up, and one read is blocked
pub gives-block : (ends : Bool) (piece : List ℕ) (old new : List Turn) (room : ℕ) → piece ≡ [] → old ≡ Blocks ∷ new
    → GivesTurn ends (bytes_before piece old) room Blocked [] (bytes_before piece new)
gives-block ends piece old new room used first = rw (used, first) (refl, refl, refl)
