-- Bits of words.
use Rattle.std.proofs.Common.{arith, ◌≡◌, ◌==◌, ℕ, Bool, true, false, not, refl, sym, ap, ◌∙◌, min, max}
use Rattle.std.specs.Prelude.{bit_and, bit_or}
use Rattle.std.specs.Int.Bits.{and_zero_r}
use Rattle.std.proofs.lemmas.Nat.{and_assoc, and_comm}
use Rattle.std.proofs.lemmas.Bool.{eqb-true, not-false}
use Rattle.std.specs.Int.{bit_at}
use Rattle.std.proofs.lemmas.Nat.Bits.{bit_at_and, bit_at_or, same_from_bits}
use Rattle.aio_edges.specs.Words.{has_bit}

zero_from : (n : ℕ) → not (n == 0) ≡ false → n ≡ 0
zero_from n clear = eqb-true n 0 (not-false (n == 0) clear)

-- a bit that is not among those that are kept is not set
pub bit_goes : (word keep bit : ℕ) → bit_and keep bit ≡ 0 → has_bit (bit_and word keep) bit ≡ false
bit_goes word keep bit apart = ap (λ n. not (n == 0)) (and_assoc bit word keep ∙ ap (bit_and word) apart ∙ and_zero_r word)

-- a bit that was not set is not, whichever are kept
pub bit_was_clear : (word keep bit : ℕ) → has_bit word bit ≡ false → has_bit (bit_and word keep) bit ≡ false
bit_was_clear word keep bit clear =
    ap (λ n. not (n == 0))
    (ap (λ n. bit_and n bit) (and_comm word keep)
    ∙ and_assoc bit keep word
    ∙ ap (bit_and keep) (zero_from (bit_and word bit) clear)
    ∙ and_zero_r keep)

least_of_greatest : (a b : ℕ) → min a (max a b) ≡ a
least_of_greatest a b = omega arith

absorbs : (a b : ℕ) → bit_and a (bit_or a b) ≡ a
absorbs a b =
    same_from_bits (bit_and a (bit_or a b)) a
    (λ i. bit_at_and a (bit_or a b) i ∙ ap (min (bit_at a i)) (bit_at_or a b i) ∙ least_of_greatest (bit_at a i) (bit_at b i))

-- a bit that is not set though others were added was not set
pub bit_stays_clear : (word bits bit : ℕ) → has_bit (bit_or word bits) bit ≡ false → has_bit word bit ≡ false
bit_stays_clear word bits bit clear =
    ap (λ n. not (n == 0))
    (ap (λ n. bit_and n bit) (sym (absorbs word bits))
    ∙ and_assoc bit word (bit_or word bits)
    ∙ ap (bit_and word) (zero_from (bit_and (bit_or word bits) bit) clear)
    ∙ and_zero_r word)

-- a bit that was set is, whichever are added
pub bit_stays : (word bits bit : ℕ) → has_bit word bit ≡ true → has_bit (bit_or word bits) bit ≡ true
bit_stays word bits bit set = by_cases (has_bit (bit_or word bits) bit) refl
  where
    by_cases : (b : Bool) → has_bit (bit_or word bits) bit ≡ b → b ≡ true
    by_cases true is = refl
    by_cases false is = sym (bit_stays_clear word bits bit is) ∙ set

-- a bit that is set was set before others were taken
pub bit_was : (word keep bit : ℕ) → has_bit (bit_and word keep) bit ≡ true → has_bit word bit ≡ true
bit_was word keep bit set = by_cases (has_bit word bit) refl
  where
    by_cases : (b : Bool) → has_bit word bit ≡ b → b ≡ true
    by_cases true is = refl
    by_cases false is = sym (bit_was_clear word keep bit is) ∙ set
