-- Timers as contracts see them, and what a call that did the work of the rule of timers on one and its host, or not all of it, leaves behind.
use Rattle.std.specs.Prelude.{◌≡◌, ◌↔◌, ℕ, ◌+◌, ◌^◌, ◌≤◌, Bool, true, false, not, ◌&&◌, IsTrue, if◌then◌else◌, Option, None, Some, is_some, IfSome, Result, Ok, Err, ◌⊎◌}
use Rattle.aio_base.specs.declared.names.TimerId.{TimerId}
use Rattle.aio_base.specs.declared.names.Waker.{Waker}
use Rattle.aio_base.specs.declared.outcomes.CountFault.{CountFault}
use Rattle.aio_base.specs.Devices.{HasCause}
use Rattle.aio_base.specs.TimerWork.{TimerState, Work, joining, tick_work, reset_work}
use Rattle.aio_base.specs.Trace.{IsPeriod}
use Rattle.aio_base.specs.Hosts.{HostRules, has_id_left, next_id, NotifierTells}
use Rattle.aio_base.specs.declared.outcomes.Poll.{Poll}
use Rattle.aio_base.specs.declared.outcomes.Poll.TheVariants.{Ready, Pending}
use Rattle.aio_future.specs.declared.answers.TimerFault.{TimerFault}
use Rattle.aio_future.specs.declared.answers.TimerFault.TheVariants.{IdsSpent, OutOfMemory, Notify}

-- ## Timers

-- a timer: its deadline, its period, the id of its registration, and the waker that it keeps
pub record TimerValue : Type 0 where
  pub deadline : Option ℕ
  pub period : Option ℕ
  pub id : Option TimerId
  pub kept : Option Waker

-- a timer that is not registered
abbrev pub new_timer : Option ℕ → Option ℕ → TimerValue
new_timer deadline period = record { deadline = deadline; period = period; id = None; kept = None }

-- What stands of every timer: its deadline is a moment and its period is one; and where it is registered it has a deadline and keeps a waker.
pub record IsTimer (timer : TimerValue) : Type 0 where
  pub moment : IfSome timer.deadline (λ deadline. deadline ≤ 10 ^ 18)
  pub span : IfSome timer.period IsPeriod
  pub registered : IfSome timer.id (λ id. IsTrue (is_some timer.deadline && is_some timer.kept))

-- the registration of a timer: its deadline and its id
abbrev pub registration_at : Option ℕ → Option TimerId → Option (ℕ × TimerId)
registration_at None id = None
registration_at (Some deadline) None = None
registration_at (Some deadline) (Some id) = Some (deadline, id)

abbrev pub registration_of : TimerValue → Option (ℕ × TimerId)
registration_of timer = registration_at timer.deadline timer.id

-- ## The work of a call

-- what a timer holds beside its registration
abbrev pub state_of : TimerValue → TimerState
state_of timer = record { deadline = timer.deadline; period = timer.period; kept = timer.kept }

-- the work of a poll at a moment with a waker
abbrev pub poll_work : TimerValue → ℕ → Waker → Work
poll_work timer now waker = tick_work (is_some timer.id) (state_of timer) now waker

-- the work of setting the deadline, and the period where one is given
abbrev pub set_work : TimerValue → ℕ → Option ℕ → Work
set_work timer deadline period = reset_work (state_of timer) deadline period

-- the registration that leaves: the timer's own, where it changes
abbrev pub leaving : TimerValue → Option TimerState → Option (ℕ × TimerId)
leaving timer None = None
leaving timer (Some becomes) = registration_of timer

-- the registration that joins: the one that the timer then wants, where it changes
abbrev pub joined : Option TimerState → Option (ℕ × Waker)
joined None = None
joined (Some becomes) = joining becomes

-- the timer that is left where all the work was done, if the pass's next id is this
abbrev pub timer_left : TimerValue → Option TimerState → TimerId → TimerValue
timer_left timer None next = timer
timer_left timer (Some becomes) next = record {
  deadline = becomes.deadline;
  period = becomes.period;
  id = if is_some (joining becomes) then Some next else None;
  kept = becomes.kept;
}

-- whether the work has to draw an id of a pass that has none left
abbrev pub lacks_id : Work → ℕ → Bool
lacks_id work drawn = is_some (joined work.becomes) && not (has_id_left drawn)

-- ## What a call did

-- the host once a registration left it; where there is none to leave, the host is as it was
abbrev pub RemovesOwn : {H : Type 0} → HostRules H → Option (ℕ × TimerId) → H → H → Type 0
RemovesOwn rules None old new = new ≡ old
RemovesOwn rules (Some registration) old new = rules.removed old registration.0 registration.1 new

-- the host once a deadline and a waker were registered under an id; where there are none, the host is as it was
abbrev pub Inserts : {H : Type 0} → HostRules H → Option (ℕ × Waker) → TimerId → H → H → Type 0
Inserts rules None id old new = new ≡ old
Inserts rules (Some registration) id old new = rules.inserted old registration.0 registration.1 id new

-- the host once it refused to let a registration leave; without one nothing is refused
abbrev pub RefusesRemoval : {H : Type 0} → HostRules H → Option (ℕ × TimerId) → H → H → Type 0
RefusesRemoval rules None old new = ⊥
RefusesRemoval rules (Some registration) old new = rules.removal_refused old registration.0 registration.1 new

-- the host once it refused to register a deadline and a waker; without them nothing is refused
abbrev pub RefusesInsert : {H : Type 0} → HostRules H → Option (ℕ × Waker) → H → H → Type 0
RefusesInsert rules None old new = ⊥
RefusesInsert rules (Some registration) old new = rules.insert_refused old registration.0 registration.1 new

-- All the work was done: the old registration left, then the new one joined under the pass's next id, and the timer is the one that is left.
pub record Done {H : Type 0} (rules : HostRules H) (work : Work) (next : TimerId) (old new : H) (before after : TimerValue) : Type 0 where
  pub mid : H
  pub removal : RemovesOwn rules (leaving before work.becomes) old mid
  pub insertion : Inserts rules (joined work.becomes) next mid new
  pub timer : after ≡ timer_left before work.becomes next

-- All the work was done, but the host's notifier failed in the insert. The fault tells the deadline that was reached, and the counts of that insert.
pub record NotNotified {H : Type 0} (rules : HostRules H) (sure : Bool) (work : Work) (next : TimerId) (old new : H)
    (before after : TimerValue) (fired : Option ℕ) (fault : CountFault) : Type 0 where
  pub done : Done rules work next old new before after
  pub wanted : IsTrue (is_some (joined work.becomes))
  pub reached : fired ≡ work.reached
  pub stays : rules.faults old ≤ rules.faults done.mid
  pub fails : NotifierTells sure (rules.faults done.mid) (rules.faults new) (Some fault)

-- the host refused the removal: the timer is as it was
pub record RemovalRefused {H : Type 0} (rules : HostRules H) (work : Work) (old new : H) (before after : TimerValue) : Type 0 where
  pub refusal : RefusesRemoval rules (leaving before work.becomes) old new
  pub timer : after ≡ before

-- the host refused the insert, after the removal: the timer is as it was, but that it is not registered
pub record InsertRefused {H : Type 0} (rules : HostRules H) (work : Work) (old new : H) (before after : TimerValue) : Type 0 where
  pub mid : H
  pub removal : RemovesOwn rules (leaving before work.becomes) old mid
  pub refusal : RefusesInsert rules (joined work.becomes) mid new
  pub timer : after ≡ record before { id = None }

-- What a call did with its work, by the fault that it told: all of it, also where the notifier failed; nothing, where ids are spent; and where
-- memory ran out the removal at most. The host's own relations name its states; `next` is the pass's next id.
abbrev pub Carried : {H : Type 0} → HostRules H → (sure : Bool) → Work → TimerId → (old new : H) → (before after : TimerValue)
    → Option TimerFault → Type 0
Carried rules sure work next old new before after None = Done rules work next old new before after
Carried rules sure work next old new before after (Some IdsSpent) = (new ≡ old) × (after ≡ before)
Carried rules sure work next old new before after (Some OutOfMemory) =
    RemovalRefused rules work old new before after ⊎ InsertRefused rules work old new before after
Carried rules sure work next old new before after (Some (Notify fired fault)) =
    NotNotified rules sure work next old new before after fired fault

-- how many ids the pass has drawn after a call: one more where it registered the timer
abbrev pub drawn_after : Work → ℕ → Option TimerFault → ℕ
drawn_after work drawn None = if is_some (joined work.becomes) then drawn + 1 else drawn
drawn_after work drawn (Some IdsSpent) = drawn
drawn_after work drawn (Some OutOfMemory) = drawn
drawn_after work drawn (Some (Notify fired fault)) = drawn + 1

-- whether a call told a fault of the host's notifier
abbrev pub is_notify : Option TimerFault → Bool
is_notify None = false
is_notify (Some IdsSpent) = false
is_notify (Some OutOfMemory) = false
is_notify (Some (Notify fired fault)) = true

-- A call with this work on a timer and a host, which told this fault, if any: ids are spent exactly where the work has to draw one and none is
-- left; the host is later, of the same pass; and a fault of its notifier has its cause in this call.
pub record Worked {H : Type 0} (rules : HostRules H) (later : H → H → Type 0) (sure : H → Bool) (work : Work) (old new : H)
    (before after : TimerValue) (told : Option TimerFault) : Type 0 where
  pub spent : (told ≡ Some IdsSpent) ↔ IsTrue (lacks_id work (rules.drawn old))
  pub carried : Carried rules (sure old) work (next_id (rules.pass old) (rules.drawn old)) old new before after told
  pub ids : rules.drawn new ≡ drawn_after work (rules.drawn old) told
  pub cause : HasCause (rules.faults old) (rules.faults new) (sure old) (IsTrue (is_notify told))
  pub is_later : later old new
  pub same_pass : rules.pass new ≡ rules.pass old

-- ## Answers

-- the fault that a poll told
abbrev pub poll_fault : Poll (Result ℕ TimerFault) → Option TimerFault
poll_fault Pending = None
poll_fault (Ready (Ok deadline)) = None
poll_fault (Ready (Err fault)) = Some fault

-- The answer of a poll: with a fault, that; else ready with the deadline that was reached, and pending where none was.
abbrev pub poll_answer : Option ℕ → Option TimerFault → Poll (Result ℕ TimerFault)
poll_answer reached (Some fault) = Ready (Err fault)
poll_answer (Some deadline) None = Ready (Ok deadline)
poll_answer None None = Pending

-- the fault that setting a timer told
abbrev pub set_fault : Result (Unit {0}) TimerFault → Option TimerFault
set_fault (Ok done) = None
set_fault (Err fault) = Some fault

-- the work of a timer that is to become another one, which is registered as that wants it
abbrev pub change_work : TimerValue → Option ℕ → Work
change_work next reached = record { becomes = Some (state_of next); reached = reached }
