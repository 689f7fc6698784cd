-- A line without the carriage return at its end.
use Rattle.std.proofs.Common.{◌≡◌, ℕ, zero, suc, ◌+◌, Bool, true, false, cond, eqb, List, [], ◌∷◌, length, get_or, take, refl, ap, arith}
use Rattle.std.proofs.lemmas.Bool.Decides.{nat_tests}
use Rattle.aio_base.specs.Lines.{body_of}

last_by : (b : ℕ) (test : Bool) → eqb b 13 ≡ test → body_of (b ∷ []) ≡ cond test [] (b ∷ [])
last_by b test e = ap (λ t. cond t [] (b ∷ [])) e

pub body_with_return : (line : List ℕ) (at : ℕ) → length line ≡ at + 1 → get_or line at 0 ≡ 13 → body_of line ≡ take at line
body_with_return [] at long last = absurd (omega arith)
body_with_return (b ∷ []) zero long last = last_by b true (grind (arith, nat_tests))
body_with_return (b ∷ []) (suc k) long last = absurd (omega arith)
body_with_return (b ∷ c ∷ bytes) zero long last = absurd (omega arith)
body_with_return (b ∷ c ∷ bytes) (suc k) long last = ap (λ body. b ∷ body) (body_with_return (c ∷ bytes) k (omega arith) last)

pub body_of_other : (line : List ℕ) → ((at : ℕ) → length line ≡ at + 1 → get_or line at 0 ≡ 13 → ⊥) → body_of line ≡ line
body_of_other [] other = refl
body_of_other (b ∷ []) other = last_by b false (other_last b (other 0 (omega arith)))
  where
    other_last : (b : ℕ) → (b ≡ 13 → ⊥) → eqb b 13 ≡ false
    other_last b other = grind (arith, nat_tests)
body_of_other (b ∷ c ∷ bytes) other = ap (λ body. b ∷ body) (body_of_other (c ∷ bytes) (λ at long last. other (suc at) (omega arith) last))
