-- What a thread does inside a source, and what it does with the waker that a poll replaced.
use Rattle.std.specs.Prelude.{◌≡◌, ℕ, ◌≤◌, Bool, List, Option, None, Some, IfSome, Result, Ok, Err, IsOk}
use Rattle.aio_base.specs.declared.names.Waker.{Waker}
use Rattle.aio_base.specs.declared.outcomes.ArmFault.{ArmFault}
use Rattle.aio_base.specs.declared.outcomes.CountFault.{CountFault}
use Rattle.aio_base.specs.declared.outcomes.Failed.{Failed}
use Rattle.aio_base.specs.declared.outcomes.Poll.{Poll}
use Rattle.aio_base.specs.declared.outcomes.Poll.TheVariants.{Ready, Pending}
use Rattle.aio_rules.specs.declared.seats.SeatView.{SeatView}
use Rattle.aio_rules.specs.declared.seats.WordStep.TheVariants as word_step
use Rattle.aio_rules.specs.SharedWords.{after}
use Rattle.aio_rules.specs.WordCalls.{wake_steps}
use Rattle.aio_source.specs.declared.source.SourceCell.{SourceCell}
use Rattle.aio_words.specs.Calls.{Offers}
use Rattle.aio_shared.specs.Inside.{InsideValue, IsLaterInside, with_seat}
use Rattle.aio_base.specs.Hosts.{NotifierTells}
use Rattle.aio_source.specs.Visits.{IsUnsureArm}
use Rattle.aio_sources.specs.Sources.{SourceRefValue}
use Rattle.aio_sources.specs.Visiting.{visited_once}
use Rattle.aio_shared.specs.declared.polling.PollFault.{PollFault}
use Rattle.aio_shared.specs.declared.polling.PollFault.TheVariants as poll_fault
use Rattle.aio_source.specs.declared.visit.Visited.{Visited}

-- ## A visit of a source

module _ {S B : Type 0} (rest : S → List ℕ) (visits : SourceCell S → ℕ → B → SourceCell S → Type 0) where
  -- A thread loaded the number of rounds begun, once; then it took the source of this token out of its lock, made one visit with that number, and put
  -- back what the visit left. The token then knows the rest of the connection as it was left.
  pub record VisitsOnce (token left : SourceRefValue) (view next : SeatView) (answer : B) : Type 0 where
    pub ticker : ℕ
    pub loaded : next ≡ after (word_step.LoadTicker ticker) view
    pub least : view.seen ≤ ticker
    pub found : SourceCell S
    pub key_is : found.state.key.0 ≡ token.key
    pub rest_is : rest found.io ≡ token.rest
    pub put : SourceCell S
    pub visited : visits found ticker answer put
    pub token_is : left ≡ visited_once token (rest put.io)

-- ## The waker that was replaced

-- where a waker was replaced it was woken, with these steps and this answer; where none was, nothing was done
abbrev pub WakesReplaced : {N : Type 0} → (N → ℕ) → (N → Result (Unit {0}) Failed → N → Type 0) → ℕ → Option Waker → SeatView → SeatView → N → N
    → Result (Unit {0}) CountFault → Type 0
WakesReplaced calls step parkers None view next old new answer = (next ≡ view) × (new ≡ old) × IsOk answer
WakesReplaced calls step parkers (Some waker) view next old new answer = Offers calls step (wake_steps waker.0 parkers) view next old new answer

-- what a poll of a source answers, by the answer of its direction and that of the wake: the fault of the arm comes first, and a direction that is
-- ready replaced no waker
abbrev pub answer_of : {O : Type 0} → Poll (Result O ArmFault) → Result (Unit {0}) CountFault → Poll (Result O PollFault)
answer_of (Ready (Ok output)) woken = Ready (Ok output)
answer_of (Ready (Err fault)) woken = Ready (Err (poll_fault.Arm fault))
answer_of Pending (Ok done) = Pending
answer_of Pending (Err fault) = Ready (Err (poll_fault.Notify fault))

module _ {N S O : Type 0} (calls : N → ℕ) (notifies : N → Result (Unit {0}) Failed → N → Type 0) (rest : S → List ℕ)
    (visits : SourceCell S → ℕ → Visited O → SourceCell S → Type 0) where
  -- A thread visited a source once; and then the waker that this visit replaced, if it replaced one, was woken.
  pub record WorksOn (token left : SourceRefValue) (old new : InsideValue N) (answer : Poll (Result O PollFault)) : Type 0 where
    pub tried : Visited O
    pub between : SeatView
    pub visit : VisitsOnce rest visits token left old.member.pass.view between tried
    pub woken : Result (Unit {0}) CountFault
    pub woke : WakesReplaced calls notifies old.shared.words.parkers tried.replaced between new.member.pass.view old.member.notifier new.member.notifier woken
    pub answer_is : answer ≡ answer_of tried.answer woken

abbrev pub arm_fault_in : {O : Type 0} → Poll (Result O PollFault) → Option ArmFault
arm_fault_in (Ready (Err (poll_fault.Arm fault))) = Some fault
arm_fault_in (Ready (Err (poll_fault.Notify fault))) = None
arm_fault_in (Ready (Ok output)) = None
arm_fault_in Pending = None

abbrev pub notify_fault_in : {O : Type 0} → Poll (Result O PollFault) → Option CountFault
notify_fault_in (Ready (Err (poll_fault.Notify fault))) = Some fault
notify_fault_in (Ready (Err (poll_fault.Arm fault))) = None
notify_fault_in (Ready (Ok output)) = None
notify_fault_in Pending = None

-- What work inside a source leaves of the host, by its answer: the fault of an arm is one of this source, in a reactor that is not sure of its arms; that
-- of the notifier has a cause in it, and tells its counts; nothing changed but the member's seat and notifier; and the host is later.
pub record LeavesInside {N O : Type 0} (faults : N → ℕ) (is_sure : N → Bool) (all_sure : Bool) (key : ℕ) (old new : InsideValue N) (answer : Poll (Result O PollFault)) : Type 0 where
  pub arm : IfSome (arm_fault_in answer) (IsUnsureArm all_sure key)
  pub notifier : NotifierTells (is_sure old.member.notifier) (faults old.member.notifier) (faults new.member.notifier) (notify_fault_in answer)
  pub kept : new ≡ with_seat old new.member.pass new.member.notifier
  pub later : IsLaterInside faults is_sure old new
