-- The number that stands for a number, or for none: then it is one that is never kept.
use Rattle.std.specs.Prelude.{ℕ, ◌≡◌, ◌==◌, Bool, true, false, if◌then◌else◌, Option, None, Some, option_map, refl}
use Rattle.std.proofs.Common.{sym}
use Rattle.std.proofs.lemmas.Bool.{eqb-true}
use Rattle.aio_base.specs.declared.names.TimerId.{TimerId}

-- what a number stands for, where `none` stands for none
abbrev pub number_in : (none : ℕ) → ℕ → Option ℕ
number_in none n = if n == none then None else Some n

-- the number that stands for a number, or for none
abbrev pub stands_for : (none : ℕ) → Option ℕ → ℕ
stands_for none None = none
stands_for none (Some n) = n

stands_for-if : (none n : ℕ) (t : Bool) → (n == none) ≡ t → stands_for none (if t then None else Some n) ≡ n
stands_for-if none n true e = sym (eqb-true n none e)
stands_for-if none n false e = refl

pub stands_for-number_in : (none n : ℕ) → stands_for none (number_in none n) ≡ n
stands_for-number_in none n = stands_for-if none n (n == none) refl

-- the id of a registration with this number, where there is one
abbrev pub id_of : Option ℕ → Option TimerId
id_of number = option_map (λ (n : ℕ). record { 0 = n }) number
