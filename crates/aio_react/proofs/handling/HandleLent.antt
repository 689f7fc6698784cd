-- What the handling of the first event in hand asked of the poller.
use Rattle.std.proofs.Common.{◌≡◌, ℕ, Bool, List, ◌∷◌, drop, Option, Some, option_map, Result, Ok, sym, ap, ◌∙◌, subst}
use Rattle.std.specs.Prelude.{IfOk}
use Rattle.aio_base.specs.declared.names.Event.{Event}
use Rattle.aio_base.specs.declared.outcomes.ArmFault.{ArmFault}
use Rattle.aio_base.specs.declared.outcomes.Failed.{Failed}
use Rattle.aio_base.specs.Devices.{Interests, ArmCall}
use Rattle.aio_source.specs.InHand.{handling_first, arm_told}
use Rattle.aio_source.specs.Lent.{UsesArm, arm_of, arm_answer}
use Rattle.aio_source.specs.Rules.{Prepared}
use Rattle.aio_react.specs.declared.entries.SourceEntry.{SourceEntry}
use Rattle.aio_react.specs.declared.outcomes.Handled.{Handled}
use Rattle.aio_react.specs.declared.refusals.CoreRefusal.{CoreRefusal}
use Rattle.aio_react.specs.Asking.{UsesPoller, handle_part, handle_part_of}
use Rattle.aio_react.specs.Cores.{CoreValue, entry_at}

pub handle_part_is : (core : CoreValue) (event : Event) (e : SourceEntry) → core.round.hand ≡ event ∷ drop 1 core.round.hand → entry_at core.sources event.key.0 ≡ Some e
    → handle_part core ≡ Some (handling_first core.round e.source)
handle_part_is core event e hand is =
    ap (λ (events : List Event). handle_part_of core events) hand ∙ ap (option_map (λ (e : SourceEntry). handling_first core.round e.source)) is

pub handled_lent : {S : Type 0} (step : S → ArmCall → Result (Unit {0}) Failed → S → Type 0) (tells : S → Option Interests) (rest : S → List ℕ) (count : S → ℕ) (is_sure : S → Bool)
    (old new : S) (core : CoreValue) (event : Event) (e : SourceEntry) (fault : Option ArmFault) (result : Result Handled CoreRefusal)
    → core.round.hand ≡ event ∷ drop 1 core.round.hand → entry_at core.sources event.key.0 ≡ Some e → result ≡ Ok (record { key = event.key; fault = fault })
    → (let p = handling_first core.round e.source in UsesArm step tells rest count is_sure p.arms (arm_of p.source) (arm_answer (arm_told fault)) old new)
    → IfOk result (λ (handled : Handled). UsesPoller step tells rest count is_sure (handle_part core) (arm_told handled.fault) old new)
handled_lent step tells rest count is_sure old new core event e fault result hand is said uses =
    subst (λ (r : Result Handled CoreRefusal). IfOk r (λ (handled : Handled). UsesPoller step tells rest count is_sure (handle_part core) (arm_told handled.fault) old new)) (sym said)
    (subst (λ (p : Option Prepared). UsesPoller step tells rest count is_sure p (arm_told fault) old new) (sym (handle_part_is core event e hand is)) uses)
