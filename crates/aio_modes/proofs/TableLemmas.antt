-- A key past the end of a table has no interest that could be lessened.
use Rattle.std.proofs.Common.{◌≡◌, ◌≤◌, ◌==◌, ℕ, Bool, if◌then◌else◌, List, length, ◌∙◌, sym, ap, ⊎_elim}
use Rattle.std.proofs.lemmas.Bool.{cases_eq, ne_eqb, eq-eqb}
use Rattle.std.proofs.lemmas.List.{get_or_past}
use mathlib.Core.Path.{fun_ext}
use Rattle.aio_base.specs.declared.names.Interest.{Interest}
use Rattle.aio_base.specs.declared.names.TheConstants.Interest.{NONE}
use Rattle.aio_base.specs.Devices.{Interests, with_interest}
use Rattle.aio_base.specs.World.{except}
use Rattle.aio_script.specs.Interests.{interests_in}
use Rattle.aio_modes.proofs.DirectionSets.{except_none}

same-at : (interests : Interests) (key : ℕ) (on : Interest) → on ≡ interests key → (k : ℕ) → interests k ≡ (if k == key then on else interests k)
same-at interests key on is k =
    let chosen : Bool → Interest = λ same. if same then on else interests k in
    ⊎_elim
    (λ same. ap interests same ∙ sym is ∙ sym (ap chosen (eq-eqb k key same)))
    (λ other. sym (ap chosen (ne_eqb k key other)))
    (cases_eq k key)

-- an interest that is set to what it is leaves all
pub set_to_same : (interests : Interests) (key : ℕ) (on : Interest) → on ≡ interests key → interests ≡ with_interest key on interests
set_to_same interests key on is = fun_ext (same-at interests key on is)

pub lessened_past_end : (table : List Interest) (key : ℕ) (on : Interest) → length table ≤ key → interests_in table ≡ with_interest key (except (interests_in table key) on) (interests_in table)
lessened_past_end table key on past =
    let none : interests_in table key ≡ NONE = get_or_past table key NONE past in
    set_to_same (interests_in table) key (except (interests_in table key) on)
    (ap (λ (was : Interest). except was on) none ∙ except_none on ∙ sym none)
