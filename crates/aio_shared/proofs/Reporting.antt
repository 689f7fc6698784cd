-- What a call answers for a round that ended, by the first fault of its wakes.
use Rattle.std.proofs.Common.{refl, sym, subst, ℕ, Bool, Option, IsSome, IfSome, Result, Ok, Err, List}
use Rattle.aio_base.specs.declared.names.Waker.{Waker}
use Rattle.aio_base.specs.declared.outcomes.CountFault.{CountFault}
use Rattle.aio_base.specs.declared.outcomes.Failed.{Failed}
use Rattle.aio_base.specs.Devices.{TellsFaults}
use Rattle.aio_rules.specs.declared.seats.SeatView.{SeatView}
use Rattle.aio_source.specs.InHand.{RoundValue}
use Rattle.aio_shared.specs.declared.reacting.ReactedIn.{ReactedIn}
use Rattle.aio_shared.specs.declared.reacting.ReactFault.{ReactFault}
use Rattle.aio_shared.specs.declared.reacting.ReactFault.TheVariants as react_fault
use Rattle.aio_shared.specs.Reacting.{IsFaultWithin, NotifierCounts, NotifyFailed, ReportsRound}
use Rattle.aio_shared.specs.Reporting.{Reports}
use Rattle.aio_shared.specs.Waking.{TellsFirst, TellsFirstWake}

module _ (round : RoundValue) (failed : Option CountFault) (resumed : Bool) (in_hand : ℕ) where
  pub reports_round : (notifier : NotifierCounts) (answer : Result ReactedIn ReactFault) → Reports round failed resumed in_hand answer
      → IfSome failed (IsFaultWithin notifier.before notifier.after) → ReportsRound round resumed in_hand notifier answer
  reports_round notifier (Ok reacted) told within = (told.1, told.2, told.3, told.4, told.5)
  reports_round notifier (Err (react_fault.Wait fault)) told within = told
  reports_round notifier (Err (react_fault.Arm fault)) told within = told
  reports_round notifier (Err (react_fault.Notify fault)) told within = (told.0, subst (λ f. IfSome f (IsFaultWithin notifier.before notifier.after)) told.1 within)
  reports_round notifier (Err react_fault.RoundsSpent) told within = told
  reports_round notifier (Err react_fault.OutOfMemory) told within = told

  module _ {N : Type 0} (faults : N → ℕ) where
    pub reports_faults : (is_sure : N → Bool) (old new : N) (answer : Result ReactedIn ReactFault) → Reports round failed resumed in_hand answer
        → TellsFaults faults is_sure old new (IsSome failed) → TellsFaults faults is_sure old new (NotifyFailed answer)
    reports_faults is_sure old new (Ok reacted) told t = record { cause = record { later = t.cause.later; rose = λ none. absurd none; never = λ s. ((λ none. none), (t.cause.never s).1) }; sure = t.sure }
    reports_faults is_sure old new (Err (react_fault.Wait fault)) told t = record { cause = record { later = t.cause.later; rose = λ none. absurd none; never = λ s. ((λ none. none), (t.cause.never s).1) }; sure = t.sure }
    reports_faults is_sure old new (Err (react_fault.Arm fault)) told t = record { cause = record { later = t.cause.later; rose = λ none. absurd none; never = λ s. ((λ none. none), (t.cause.never s).1) }; sure = t.sure }
    reports_faults is_sure old new (Err (react_fault.Notify fault)) told t =
        let some : IsSome failed = subst (λ f. IsSome f) (sym told.1) refl in
        record { cause = record { later = t.cause.later; rose = λ all. t.cause.rose some; never = λ s. ((λ all. (t.cause.never s).0 some), (t.cause.never s).1) }; sure = t.sure }
    reports_faults is_sure old new (Err react_fault.RoundsSpent) told t = absurd told
    reports_faults is_sure old new (Err react_fault.OutOfMemory) told t = absurd told

    pub reports_first : (calls : N → ℕ) (step : N → Result (Unit {0}) Failed → N → Type 0) (parkers : ℕ) (wakers : List Waker) (view last : SeatView) (old new : N)
        (answer : Result ReactedIn ReactFault) → Reports round failed resumed in_hand answer
        → TellsFirst calls faults step parkers wakers view last old new failed → TellsFirstWake calls faults step parkers wakers view last old new answer
    reports_first calls step parkers wakers view last old new (Ok reacted) told first = subst (λ f. TellsFirst calls faults step parkers wakers view last old new f) told.0 first
    reports_first calls step parkers wakers view last old new (Err (react_fault.Wait fault)) told first = (failed, first)
    reports_first calls step parkers wakers view last old new (Err (react_fault.Arm fault)) told first = (failed, first)
    reports_first calls step parkers wakers view last old new (Err (react_fault.Notify fault)) told first = subst (λ f. TellsFirst calls faults step parkers wakers view last old new f) told.1 first
    reports_first calls step parkers wakers view last old new (Err react_fault.RoundsSpent) told first = tt
    reports_first calls step parkers wakers view last old new (Err react_fault.OutOfMemory) told first = tt
