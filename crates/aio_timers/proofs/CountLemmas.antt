-- Indices that are the same, or are not.
use Rattle.std.proofs.Common.{inl, inr, ◌⊎◌, zero, suc, ◌≡◌, ◌≢◌, ℕ, ◌<◌, ◌≤◌, arith, refl}
use Rattle.std.proofs.lemmas.Bool.Decides.{nat_tests}
use Rattle.aio_timers.specs.Rows.{one_if}

pub one_if-same : (i : ℕ) → one_if i i ≡ 1
one_if-same i = grind (arith, nat_tests)

pub one_if-other : (j i : ℕ) → j ≢ i → one_if j i ≡ 0
one_if-other j i ne = grind (arith, nat_tests)

pub one_if-le : (j i : ℕ) → one_if j i ≤ 1
one_if-le j i = grind (arith, nat_tests)

-- a number is positive or none
pub some_or_none : (n : ℕ) → (0 < n) ⊎ (n ≡ 0)
some_or_none zero = inr refl
some_or_none (suc n) = inl (omega arith)
