-- Lemmas on the timer of a pair that waits.
use Rattle.std.proofs.Common.{◌≡◌, ℕ, ◌≤◌, Bool, true, false, refl, sym, ap, ◌∙◌, subst, arith, inr, Option, Some, Result, Ok, Err}
use Rattle.std.specs.Prelude.{◌&&◌, not, IsTrue}
use Rattle.std.proofs.lemmas.Bool.{true≢false, false_from_ne_true}
use Rattle.aio_base.specs.Devices.{Rose}
use Rattle.aio_base.specs.TimerWork.{Work}
use Rattle.aio_base.specs.declared.names.Waker.{Waker}
use Rattle.aio_base.specs.declared.outcomes.CountFault.{CountFault}
use Rattle.aio_base.specs.Hosts.{HostRules, NotifierTells, has_id_left}
use Rattle.aio_future.specs.Timers.{TimerValue, Worked}
use Rattle.aio_future.specs.declared.answers.TimerFault.{TimerFault}
use Rattle.aio_future.specs.declared.answers.TimerFault.TheVariants as timer_fault
use Rattle.aio_pairs.specs.Calls.{RoseIn}
use Rattle.aio_relay.specs.Waiting.{ComesTo, Sets}
use Rattle.aio_relay.specs.declared.waiting.WaitFault.{WaitFault}
use Rattle.aio_relay.specs.declared.waiting.WaitFault.TheVariants as fault
use Rattle.aio_relay.proofs.TurnLemmas.{notified-longer}

none-left : (wants left : Bool) → IsTrue (wants && not left) → left ≡ false
none-left wants false is = refl
none-left true true is = absurd (true≢false (sym is))
none-left false true is = absurd (true≢false (sym is))

-- the notifier's fault in the midst of two states of a host
notified-within : (before mid after later : ℕ) (sure : Bool) (f : CountFault) → before ≤ mid → after ≤ later → NotifierTells sure mid after (Some f) → RoseIn before later sure f
notified-within before mid after later sure f order further tells = (
  false_from_ne_true sure (λ is. (tells.cause.never is).0 refl),
  omega (arith, order, ap (λ (x : CountFault). x.before) tells.counts),
  subst (λ (x : CountFault). Rose x.before x.after) (sym tells.counts) (tells.cause.rose refl),
  omega (arith, further, ap (λ (x : CountFault). x.after) tells.counts),
)

pub sets-after : {H : Type 0} (rules : HostRules H) (later : H → H → Type 0) (sure : H → Bool) (work : Work) (first mid last : H) (old new : TimerValue) (told : TimerFault)
    (w : Waker) (result : Result (Unit {0}) WaitFault)
    → Worked rules later sure work first mid old new (Some told) → sure mid ≡ sure first → rules.drawn last ≡ rules.drawn mid → rules.faults mid ≤ rules.faults last
    → ComesTo told (rules.faults mid) (rules.faults last) (sure mid) result
    → Sets old.deadline w (has_id_left (rules.drawn last)) (rules.faults first) (rules.faults last) (sure first) new result
sets-after rules later sure work first mid last old new timer_fault.IdsSpent w (Ok done) k same drawn further is = record {
  deadline = ap (λ (t : TimerValue). t.deadline) k.carried.1;
  registered = λ some. inr (ap has_id_left (drawn ∙ k.ids) ∙ none-left _ _ (k.spent.0 refl));
}
sets-after rules later sure work first mid last old new timer_fault.IdsSpent w (Err (fault.Notify f)) k same drawn further is =
    notified-longer (rules.faults first) (rules.faults mid) (rules.faults last) (sure first) (sure mid) k.cause.later same f is
sets-after rules later sure work first mid last old new timer_fault.IdsSpent w (Err fault.OutOfMemory) k same drawn further is = tt
sets-after rules later sure work first mid last old new (timer_fault.Notify fired f) w result k same drawn further is =
    subst (λ (r : Result (Unit {0}) WaitFault). Sets old.deadline w (has_id_left (rules.drawn last)) (rules.faults first) (rules.faults last) (sure first) new r) (sym is)
    (notified-within _ _ _ _ (sure first) f k.carried.stays further k.carried.fails)
sets-after rules later sure work first mid last old new timer_fault.OutOfMemory w result k same drawn further is =
    subst (λ (r : Result (Unit {0}) WaitFault). Sets old.deadline w (has_id_left (rules.drawn last)) (rules.faults first) (rules.faults last) (sure first) new r) (sym is) tt

pub sets-told : {H : Type 0} (rules : HostRules H) (later : H → H → Type 0) (sure : H → Bool) (work : Work) (first mid last : H) (old new : TimerValue) (told : Option TimerFault) (f : TimerFault)
    (w : Waker) (result : Result (Unit {0}) WaitFault)
    → told ≡ Some f → Worked rules later sure work first mid old new told → sure mid ≡ sure first → rules.drawn last ≡ rules.drawn mid → rules.faults mid ≤ rules.faults last
    → ComesTo f (rules.faults mid) (rules.faults last) (sure mid) result
    → Sets old.deadline w (has_id_left (rules.drawn last)) (rules.faults first) (rules.faults last) (sure first) new result
sets-told rules later sure work first mid last old new told f w result is k =
    sets-after rules later sure work first mid last old new f w result (subst (λ (t : Option TimerFault). Worked rules later sure work first mid old new t) is k)
