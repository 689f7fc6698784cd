-- What the root tells of the front of a book.
use Rattle.std.proofs.Common.{◌≡◌, ℕ, List, [], ◌∷◌, ◌++◌, Option, Some, refl, ap}
use Rattle.std.specs.Prelude.{nat_le}
use Rattle.aio_base.specs.declared.names.TimerId.{TimerId}
use Rattle.aio_base.specs.World.{Registration}
use Rattle.aio_timers.specs.Held.{Held}
use Rattle.aio_timers.specs.Book.{first_pair, is_first_due}
use Rattle.aio_timers.proofs.LeastLemmas.{OfNode}

pub front-pair : (h : Held) (r : Registration) (more book : List Registration) (pair : ℕ × TimerId) → OfNode h r → book ≡ r ∷ more → pair ≡ (h.deadline, record { 0 = h.id }) → ◌≡◌ {A = Option (ℕ × TimerId)} (Some pair) (first_pair book)
front-pair h r more book pair own is e = rw (is, e, own.deadline_is, own.id_is) refl

pub front-due : (now : ℕ) (h : Held) (r : Registration) (more book : List Registration) → OfNode h r → book ≡ r ∷ more → nat_le h.deadline now ≡ is_first_due now book
front-due now h r more book own is = rw (is, own.deadline_is) refl

pub append-nil : {X : Type 0} (xs : List X) → xs ++ [] ≡ xs
append-nil [] = refl
append-nil (x ∷ xs) = ap (λ (ys : List _). x ∷ ys) (append-nil xs)
