use Rattle.std.proofs.Common.{◌≡◌, ℕ, List, ◌≤◌, get_or, replicate, ⊎_elim, subst, sym}
use Rattle.std.proofs.lemmas.Bool.{cases_lt}
use Rattle.std.proofs.lemmas.List.{get_or-replicate, get_or_past, length-replicate}
use Rattle.aio_base.specs.declared.names.Interest.{Interest}
use Rattle.aio_base.specs.declared.names.TheConstants.Interest.{NONE}
use Rattle.aio_script.specs.Interests.{none_armed}
use Rattle.aio_script.proofs.interests.InterestTable.new.Goals as goal

-- each entry of equal entries is that entry, and so is the one past the end
same-everywhere : {X : Type 0} → (n key : ℕ) (x : X) → get_or (replicate n x) key x ≡ x
same-everywhere n key x =
    ⊎_elim
    (λ within. get_or-replicate n key x x within)
    (λ past. get_or_past (replicate n x) key x (subst (λ (len : ℕ). len ≤ key) (sym (length-replicate n x)) past))
    (cases_lt key n)

-- a copy of an interest is that interest
pub returns-clause-entries : goal.returns-clause-entries
unfolding none_armed
returns-clause-entries c =
    c.in-Ok.ensures.items_if_clones_equal (λ copy is_copy. is_copy)

pub returns-clause-unarmed : goal.returns-clause-unarmed
returns-clause-unarmed c =
    let entries = c.in-Ok.ensures.items_if_clones_equal (λ copy is_copy. is_copy) in λ key. subst (λ (armed : List Interest). get_or armed key NONE ≡ NONE) (sym entries) (same-everywhere 4096 key NONE)
