-- Values under numbers from 1, each at the place of its number.
use Rattle.std.specs.Prelude.{ℕ, zero, suc, List, ◌∷◌, Option, None, slice_index_or, slice_set}

-- the value under a number, where it was given and its value is there; no value has the number 0
abbrev pub value_of : {T : Type 0} → List (Option T) → ℕ → Option T
value_of places number = slice_index_or (None ∷ places) number None

-- another value under a number, or none; nothing changes where the number was not given
abbrev pub with_value : {T : Type 0} → List (Option T) → ℕ → Option T → List (Option T)
with_value places zero value = places
with_value places (suc place) value = slice_set places place value
