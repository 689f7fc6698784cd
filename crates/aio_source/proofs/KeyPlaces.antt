-- The places of a table: the least free one, and what a change of one place makes of it.
use Rattle.std.proofs.Common.{◌≡◌, ℕ, zero, suc, ◌+◌, ◌<◌, ◌≤◌, min, List, [], ◌∷◌, ◌++◌, length, set, get_or, Option, None, Some, refl, ap, ◌∙◌, arith}
use Rattle.std.proofs.lemmas.List.{set-get_or}
use Rattle.aio_source.specs.KeyTables.{least_free, put_at}

module _ {X : Type 0} where
  pub free_within : (places : List (Option X)) → least_free places ≤ length places
  free_within [] = omega arith
  free_within (None ∷ places) = omega arith
  free_within (Some x ∷ places) = omega (arith, free_within places)

  -- a thing at any place frees no key
  pub taken_more : (places : List (Option X)) (key : ℕ) (x : X) → least_free places ≤ least_free (set places key (Some x))
  taken_more [] key x = omega arith
  taken_more (None ∷ places) zero x = omega arith
  taken_more (None ∷ places) (suc key) x = omega arith
  taken_more (Some y ∷ places) zero x = omega arith
  taken_more (Some y ∷ places) (suc key) x = omega (arith, taken_more places key x)

  -- what was read is put back
  pub read_back : (places : List (Option X)) (key : ℕ) (place : Option X) → place ≡ get_or places key place → set places key place ≡ places
  read_back places key place is = ap (λ (p : Option X). set places key p) is ∙ set-get_or places key place

  -- ## A thing at a place

  pub put_set : (places : List (Option X)) (at : ℕ) (x : X) → at < length places → put_at places at x ≡ set places at (Some x)
  put_set [] at x within = absurd (omega arith)
  put_set (place ∷ places) zero x within = refl
  put_set (place ∷ places) (suc at) x within = ap (λ rest. place ∷ rest) (put_set places at x (omega arith))

  pub put_last : (places : List (Option X)) (x : X) → put_at places (length places) x ≡ places ++ Some x ∷ []
  put_last [] x = refl
  put_last (place ∷ places) x = ap (λ rest. place ∷ rest) (put_last places x)

  pub put_few : (places : List (Option X)) (at limit : ℕ) (x : X) → length places ≤ limit → at < limit → length (put_at places at x) ≤ limit
  put_few [] at limit x few within = omega arith
  put_few (place ∷ places) zero limit x few within = omega arith
  put_few (place ∷ places) (suc at) zero x few within = absurd (omega arith)
  put_few (place ∷ places) (suc at) (suc limit) x few within = omega (arith, put_few places at limit x (omega arith) (omega arith))

  -- a thing at the least free key leaves each key up to it taken
  pub taken_put : (places : List (Option X)) (at : ℕ) (x : X) → at ≡ least_free places → at + 1 ≤ least_free (put_at places at x)
  taken_put [] zero x is = omega arith
  taken_put [] (suc at) x is = absurd (omega arith)
  taken_put (None ∷ places) zero x is = omega arith
  taken_put (None ∷ places) (suc at) x is = absurd (omega arith)
  taken_put (Some y ∷ places) zero x is = absurd (omega arith)
  taken_put (Some y ∷ places) (suc at) x is = omega (arith, taken_put places at x (omega arith))

  -- ## A place that is cleared

  -- each key below it is taken that was
  pub taken_left : (places : List (Option X)) (at : ℕ) → min (least_free places) at ≤ least_free (set places at None)
  taken_left [] at = omega arith
  taken_left (None ∷ places) at = omega arith
  taken_left (Some y ∷ places) zero = omega arith
  taken_left (Some y ∷ places) (suc at) = omega (arith, taken_left places at)
