-- What contracts see of a table of things under keys: a place for each key that was given, in their order.
use Rattle.std.specs.Prelude.{ℕ, zero, suc, List, [], ◌∷◌, slice_index_or, is_none, Option, None, Some}
use Rattle.std.specs.List.{position_or_len}

module _ {X : Type 0} where
  -- what is at a key; past the last place there is nothing
  abbrev pub at_key : List (Option X) → ℕ → Option X
  at_key places key = slice_index_or places key None

  -- the least key at which nothing is
  abbrev pub least_free : List (Option X) → ℕ
  least_free places = position_or_len is_none places

  -- a thing at a place, which may be the first past the end
  abbrev pub put_at : List (Option X) → ℕ → X → List (Option X)
  put_at [] at x = Some x ∷ []
  put_at (place ∷ places) zero x = Some x ∷ places
  put_at (place ∷ places) (suc at) x = place ∷ put_at places at x
