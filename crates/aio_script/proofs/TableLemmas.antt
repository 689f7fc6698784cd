-- A table of interests as a function of the key.
use Rattle.std.proofs.Common.{◌≡◌, ◌<◌, ◌==◌, ℕ, Bool, if◌then◌else◌, List, length, refl, ◌∙◌, sym, ap, ⊎_elim}
use Rattle.std.specs.Prelude.{slice_index_or, slice_set}
use Rattle.std.proofs.lemmas.Bool.{cases_eq, ne_eqb, eq-eqb}
use Rattle.std.proofs.lemmas.List.{get_or-set_same, get_or-set_other}
use mathlib.Core.Path.{fun_ext}
use Rattle.aio_base.specs.declared.names.Interest.{Interest}
use Rattle.aio_base.specs.declared.names.Event.{Event}
use Rattle.aio_base.specs.declared.names.TheConstants.Interest.{NONE}
use Rattle.aio_base.specs.Devices.{with_interest, clear_interests}
use Rattle.aio_script.specs.Interests.{interests_in, cleared}
use Rattle.aio_script.specs.ToldInterests.{interests_cleared}

interest-set : (entries : List Interest) (key : ℕ) (on : Interest) → key < length entries → (k : ℕ) → interests_in (slice_set entries key on) k ≡ (if k == key then on else interests_in entries k)
interest-set entries key on within k =
    let chosen : Bool → Interest = λ same. if same then on else slice_index_or entries k NONE in
    ⊎_elim
    (λ same. ap (λ (j : ℕ). slice_index_or (slice_set entries key on) j NONE) same ∙ get_or-set_same entries key on NONE within ∙ sym (ap chosen (eq-eqb k key same)))
    (λ other. get_or-set_other entries key k on NONE other ∙ sym (ap chosen (ne_eqb k key other)))
    (cases_eq k key)

-- an entry that is set is one interest that is set
pub told_set : (entries : List Interest) (key : ℕ) (on : Interest) → key < length entries → interests_in (slice_set entries key on) ≡ with_interest key on (interests_in entries)
told_set entries key on within = fun_ext (interest-set entries key on within)

-- the entries that events clear are the interests that they clear
pub told_cleared : (events : List Event) (entries : List Interest) → interests_in (cleared events entries) ≡ clear_interests events (interests_in entries)
told_cleared events entries = fun_ext (interests_cleared events entries (interests_in entries) (λ key. refl))
