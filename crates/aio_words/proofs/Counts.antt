-- The parkers in the order of their counts.
use Rattle.std.proofs.Common.{◌≡◌, ℕ, ◌+◌, ◌<◌, Bool, true, if◌then◌else◌, List, [], ◌∷◌, ◌++◌, get_or, sym, ap, ◌∙◌, arith}
use Rattle.std.specs.List.{range_with_len}
use Rattle.std.proofs.lemmas.List.{map-id}
use Rattle.std.proofs.lemmas.List.FromFn.{map-range_with_len_more, get_or-range_with_len}

-- the parkers below a number, and that number
one_more : (n : ℕ) → range_with_len 0 (n + 1) ≡ range_with_len 0 n ++ n ∷ []
one_more n = sym (map-id (range_with_len 0 (n + 1))) ∙ map-range_with_len_more (λ x. x) 0 n n (omega arith) ∙ ap (λ xs. xs ++ n ∷ []) (map-id (range_with_len 0 n))

-- a count that was added is of the next parker
pub added : (done : Bool) (n next : ℕ) (old new : List ℕ) → done ≡ true → next ≡ n → new ≡ (if done then old ++ next ∷ [] else old) → old ≡ range_with_len 0 n → new ≡ range_with_len 0 (n + 1)
added done n next old new was is made so_far = made ∙ ap (λ (b : Bool). if b then old ++ next ∷ [] else old) was ∙ ap (λ (x : ℕ). old ++ x ∷ []) is ∙ ap (λ xs. xs ++ n ∷ []) so_far ∙ sym (one_more n)

-- the parker that stands at its own place
pub in_place : (n i d : ℕ) → i < n → get_or (range_with_len 0 n) i d ≡ i
in_place n i d below = let e : 0 + i ≡ i = omega arith in get_or-range_with_len 0 n i d below ∙ e
