-- What work inside a source leaves of the host: a visit, and then the wake of whom it replaced.
use Rattle.std.proofs.Common.{◌≡◌, sym, ap, ◌∙◌, subst, ℕ, Bool, true≢false, IfSome, List, None, Option, Result, Ok, Err}
use Rattle.aio_base.specs.declared.outcomes.ArmFault.{ArmFault}
use Rattle.aio_base.specs.declared.outcomes.CountFault.{CountFault}
use Rattle.aio_base.specs.declared.outcomes.Failed.{Failed}
use Rattle.aio_base.specs.declared.outcomes.Poll.{Poll}
use Rattle.aio_base.specs.declared.outcomes.Poll.TheVariants.{Ready, Pending}
use Rattle.aio_base.specs.Hosts.{NotifierTells, wake_fault}
use Rattle.aio_rules.specs.declared.seats.SeatView.{SeatView}
use Rattle.aio_source.specs.declared.source.SourceCell.{SourceCell}
use Rattle.aio_source.specs.Visits.{IsUnsureArm, arm_fault_of}
use Rattle.aio_source.specs.declared.visit.Visited.{Visited}
use Rattle.aio_sources.specs.Sources.{SourceRefValue}
use Rattle.aio_shared.specs.declared.polling.PollFault.{PollFault}
use Rattle.aio_shared.specs.Inside.{InsideValue, IsLaterInside, with_seat}
use Rattle.aio_shared.specs.Later.{later_further}
use Rattle.aio_shared.specs.Polling.{LeavesInside, VisitsOnce, WorksOn, answer_of, arm_fault_in, notify_fault_in}

module _ (sure : Bool) (before after : ℕ) where
  tells_none : (told : Option CountFault) → NotifierTells sure before after told → NotifierTells sure before after None
  tells_none told t = record {
    cause = record { later = t.cause.later; rose = λ some. absurd (true≢false (sym some)); never = λ s. ((λ some. true≢false (sym some)), (t.cause.never s).1) };
    counts = tt;
  }

  -- the fault of the wake is told where the direction is pending
  tells_answer : {O : Type 0} (answer : Poll (Result O ArmFault)) (woken : Result (Unit {0}) CountFault) → NotifierTells sure before after (wake_fault woken)
      → NotifierTells sure before after (notify_fault_in (answer_of answer woken))
  tells_answer (Ready (Ok output)) woken t = tells_none (wake_fault woken) t
  tells_answer (Ready (Err fault)) woken t = tells_none (wake_fault woken) t
  tells_answer Pending (Ok done) t = t
  tells_answer Pending (Err fault) t = t

pub leaves : {N O : Type 0} (faults : N → ℕ) (is_sure : N → Bool) (all_sure : Bool) (key : ℕ) (old mid new : InsideValue N) (answer : Poll (Result O ArmFault)) (woken : Result (Unit {0}) CountFault)
    (result : Poll (Result O PollFault)) → mid ≡ with_seat old mid.member.pass old.member.notifier → IsLaterInside faults is_sure old mid
    → new ≡ with_seat mid new.member.pass new.member.notifier → IsLaterInside faults is_sure mid new
    → NotifierTells (is_sure mid.member.notifier) (faults mid.member.notifier) (faults new.member.notifier) (wake_fault woken)
    → IfSome (arm_fault_of answer) (IsUnsureArm all_sure key) → result ≡ answer_of answer woken → arm_fault_in result ≡ arm_fault_of answer
    → LeavesInside faults is_sure all_sure key old new result
leaves {N} {O} faults is_sure all_sure key old mid new answer woken result one first two second tells arm is arm_is = record {
  arm = subst (λ f. IfSome f (IsUnsureArm all_sure key)) (sym arm_is) arm;
  notifier = subst (λ (r : Poll (Result O PollFault)). NotifierTells (is_sure old.member.notifier) (faults old.member.notifier) (faults new.member.notifier) (notify_fault_in r)) (sym is)
      (tells_answer _ _ _ answer woken
      (subst (λ (n : N). NotifierTells (is_sure n) (faults n) (faults new.member.notifier) (wake_fault woken)) (ap (λ (x : InsideValue N). x.member.notifier) one) tells));
  kept = two ∙ (λ i. with_seat (one i) new.member.pass new.member.notifier);
  later = later_further faults is_sure old mid new first second;
}

-- the same visit, and the same work, by what it says besides
pub visits_alike : {S B : Type 0} (rest : S → List ℕ) (visits visits_too : SourceCell S → ℕ → B → SourceCell S → Type 0)
    → ((found : SourceCell S) (ticker : ℕ) (visited : B) (put : SourceCell S) → visits found ticker visited put → visits_too found ticker visited put)
    → (token left : SourceRefValue) (view next : SeatView) (answer : B)
    → VisitsOnce rest visits token left view next answer → VisitsOnce rest visits_too token left view next answer
visits_alike rest visits visits_too alike token left view next answer v = record {
  ticker = v.ticker;
  loaded = v.loaded;
  least = v.least;
  found = v.found;
  key_is = v.key_is;
  rest_is = v.rest_is;
  put = v.put;
  visited = alike v.found v.ticker answer v.put v.visited;
  token_is = v.token_is;
}

pub works_alike : {N S O : Type 0} (calls : N → ℕ) (notifies : N → Result (Unit {0}) Failed → N → Type 0) (rest : S → List ℕ)
    (visits visits_too : SourceCell S → ℕ → Visited O → SourceCell S → Type 0)
    → ((found : SourceCell S) (ticker : ℕ) (visited : Visited O) (put : SourceCell S) → visits found ticker visited put → visits_too found ticker visited put)
    → (token left : SourceRefValue) (old new : InsideValue N) (answer : Poll (Result O PollFault))
    → WorksOn calls notifies rest visits token left old new answer → WorksOn calls notifies rest visits_too token left old new answer
works_alike calls notifies rest visits visits_too alike token left old new answer w = record {
  tried = w.tried;
  between = w.between;
  visit = visits_alike rest visits visits_too alike token left old.member.pass.view w.between w.tried w.visit;
  woken = w.woken;
  woke = w.woke;
  answer_is = w.answer_is;
}
