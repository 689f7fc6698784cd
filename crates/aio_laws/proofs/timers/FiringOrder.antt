-- Registrations put in order are the same ones, and none stands behind one that it fires before.
use Rattle.std.proofs.Common.{◌≡◌, ◌⊎◌, ◌↔◌, ℕ, ◌<◌, Bool, true, false, cond, List, [], ◌∷◌, map, refl, arith}
use Rattle.std.specs.Prelude.{nat_le}
use Rattle.std.specs.List.{AllPairs, filter}
use Rattle.std.specs.List.Sorted.{IsPermutation}
use Rattle.std.proofs.lemmas.Bool.Decides.{nat_tests}
use Rattle.std.proofs.lemmas.List.Kept.{AllPairs-cons}
use Rattle.std.proofs.lemmas.List.Sorted.{IsPermutation-refl, IsPermutation-trans, IsPermutation-cons, IsPermutation-append_comm, IsPermutation-append_left}
use Rattle.aio_base.specs.World.{Registration}
use Rattle.aio_base.specs.Timers.{fires_before, placed, in_order, IsFiringOrder, due_wakers}
use Rattle.aio_base.proofs.BookChanges.{IsSorted, in_order_sorted}

-- ## The order

fires_from : (a b : Registration) → fires_before a b ≡ true → (a.deadline < b.deadline) ⊎ ((a.deadline ≡ b.deadline) × (a.id < b.id))
fires_from a b fires = grind (arith, nat_tests)

fires_where : (a b : Registration) → (a.deadline < b.deadline) ⊎ ((a.deadline ≡ b.deadline) × (a.id < b.id)) → fires_before a b ≡ true
fires_where a b where_ = grind (arith, nat_tests)

pub fires_by_deadline : (a b : Registration) → (fires_before a b ≡ true) ↔ ((a.deadline < b.deadline) ⊎ ((a.deadline ≡ b.deadline) × (a.id < b.id)))
fires_by_deadline a b = (fires_from a b, fires_where a b)

-- ## Sorted

sorted_pairs : (xs : List Registration) → IsSorted xs → AllPairs (λ (first later : Registration). fires_before later first ≡ false) xs
sorted_pairs [] sorted = λ i j d before within. absurd (omega arith)
sorted_pairs (x ∷ xs) sorted = AllPairs-cons (λ (first later : Registration). fires_before later first ≡ false) x xs sorted.0 (sorted_pairs xs sorted.1)

-- ## The same ones

either_permutation : (test : Bool) (xs ys zs : List Registration) → IsPermutation xs ys → IsPermutation xs zs → IsPermutation xs (cond test ys zs)
either_permutation true xs ys zs first second = first
either_permutation false xs ys zs first second = second

placed_same : (r : Registration) (xs : List Registration) → IsPermutation (r ∷ xs) (placed r xs)
placed_same r [] = IsPermutation-refl (r ∷ [])
placed_same r (x ∷ xs) =
    let turned : IsPermutation (r ∷ x ∷ xs) (x ∷ r ∷ xs) = IsPermutation-append_left xs (r ∷ x ∷ []) (x ∷ r ∷ []) (IsPermutation-append_comm (r ∷ []) (x ∷ [])) in
    let later : IsPermutation (x ∷ r ∷ xs) (x ∷ placed r xs) = IsPermutation-cons x (r ∷ xs) (placed r xs) (placed_same r xs) in
    either_permutation (fires_before x r) (r ∷ x ∷ xs) (x ∷ placed r xs) (r ∷ x ∷ xs)
    (IsPermutation-trans (r ∷ x ∷ xs) (x ∷ r ∷ xs) (x ∷ placed r xs) turned later) (IsPermutation-refl (r ∷ x ∷ xs))

ordered_same : (xs : List Registration) → IsPermutation xs (in_order xs)
ordered_same [] = IsPermutation-refl []
ordered_same (r ∷ xs) =
    IsPermutation-trans (r ∷ xs) (r ∷ in_order xs) (placed r (in_order xs)) (IsPermutation-cons r xs (in_order xs) (ordered_same xs)) (placed_same r (in_order xs))

-- ## The laws

pub ordered_fires : (registrations : List Registration) → IsFiringOrder registrations (in_order registrations)
ordered_fires registrations = record { same = ordered_same registrations; sorted = sorted_pairs (in_order registrations) (in_order_sorted registrations) }

pub pass_fires : (moment : ℕ) (registrations : List Registration) → (fired : List Registration)
    × IsFiringOrder (filter (λ (r : Registration). nat_le r.deadline moment) registrations) fired
    × (due_wakers moment registrations ≡ map (λ (r : Registration). r.waker) fired)
pass_fires moment registrations =
    let due = filter (λ (r : Registration). nat_le r.deadline moment) registrations in (in_order due, ordered_fires due, refl)
