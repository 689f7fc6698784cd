-- The number that stands for a link: the index of the node, or for none the greatest number of 32
-- bits.
use Rattle.std.specs.Prelude.{ℕ, ◌≡◌, ◌==◌, Bool, true, false, if◌then◌else◌, Option, None, Some, refl}
use Rattle.std.proofs.Common.{sym}
use Rattle.std.proofs.lemmas.Bool.{eqb-true}
use Rattle.aio_timers.specs.declared.link.Link.TheInside.{Inside}

abbrev pub no_node : ℕ
no_node = 4294967295

abbrev pub leads_from : ℕ → Option ℕ
leads_from n = if n == no_node then None else Some n

abbrev pub stands_for : Option ℕ → ℕ
stands_for None = no_node
stands_for (Some n) = n

stands_for-leads_from : (n : ℕ) (t : Bool) → (n == no_node) ≡ t
    → stands_for (if t then None else Some n) ≡ n
stands_for-leads_from n true e = sym (eqb-true n no_node e)
stands_for-leads_from n false e = refl

pub stands_for-inside : (l : Inside)
    → ◌≡◌ {A = Inside} (record { index = stands_for (leads_from l.index) }) l
stands_for-inside l =
    λ i. record { index = stands_for-leads_from l.index (l.index == no_node) refl i }
