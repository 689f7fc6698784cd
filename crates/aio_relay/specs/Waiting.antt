-- How a pair waits for the moment at which it is idle.
use Rattle.std.specs.Prelude.{◌≡◌, ◌⊎◌, ℕ, ◌+◌, ◌^◌, Bool, true, false, nat_le, if◌then◌else◌, Option, Some, None, IfErr, IsSome, OnOk, OnErr, Result, Ok, Err, ⊤}
use Rattle.aio_base.specs.declared.names.Waker.{Waker}
use Rattle.aio_base.specs.Hosts.{HostRules}
use Rattle.aio_future.specs.Timers.{TimerValue, RefusesRemoval, RemovesOwn, Worked, new_timer, poll_work, registration_of}
use Rattle.aio_future.specs.declared.answers.TimerFault.{TimerFault}
use Rattle.aio_future.specs.declared.answers.TimerFault.TheVariants as timer_fault
use Rattle.aio_pairs.specs.Calls.{RoseIn}
use Rattle.aio_relay.specs.declared.waiting.WaitFault.{WaitFault}
use Rattle.aio_relay.specs.declared.waiting.WaitFault.TheVariants as fault

-- the idle time after a moment, unless that is behind the last moment that there is
abbrev pub idle_from : (last idle : ℕ) → Option ℕ
idle_from last idle = if nat_le (last + idle) (10 ^ 18) then Some (last + idle) else None

-- the timer is at this moment, and where there is one it is registered with the waker, unless no id was left for that
pub record IsSetTo (due : Option ℕ) (w : Waker) (id_left : Bool) (timer : TimerValue) : Type 0 where
  pub deadline : timer.deadline ≡ due
  pub registered : IsSome due → (IsSome timer.id × (timer.kept ≡ Some w)) ⊎ (id_left ≡ false)

-- a fault of the host's notifier between these counts; want of memory needs no reason
abbrev pub WaitFailed : (before after : ℕ) → (notifier_sure : Bool) → WaitFault → Type 0
WaitFailed before after notifier_sure (fault.Notify f) = RoseIn before after notifier_sure f
WaitFailed before after notifier_sure fault.OutOfMemory = ⊤

abbrev pub Sets : Option ℕ → Waker → (id_left : Bool) → (before after : ℕ) → (notifier_sure : Bool) → TimerValue → Result (Unit {0}) WaitFault → Type 0
Sets due w id_left before after notifier_sure timer (Ok done) = IsSetTo due w id_left timer
Sets due w id_left before after notifier_sure timer (Err f) = WaitFailed before after notifier_sure f

-- what is made of a fault of the timer
abbrev pub ComesTo : TimerFault → (before after : ℕ) → (notifier_sure : Bool) → Result (Unit {0}) WaitFault → Type 0
ComesTo timer_fault.IdsSpent before after notifier_sure result = IfErr result (WaitFailed before after notifier_sure)
ComesTo (timer_fault.Notify fired f) before after notifier_sure result = result ≡ Err (fault.Notify f)
ComesTo timer_fault.OutOfMemory before after notifier_sure result = result ≡ Err fault.OutOfMemory

-- ## What becomes of the host

-- The host woke this waker, and this is what its answer is for the pair: a fault is told exactly where the wake answered it.
abbrev pub Wakes : {H : Type 0} → HostRules H → Waker → (before after : H) → Result (Unit {0}) WaitFault → Type 0
Wakes rules w before after (Ok done) = rules.woke before w (Ok tt) after
Wakes rules w before after (Err (fault.Notify f)) = rules.woke before w (Err f) after
Wakes rules w before after (Err fault.OutOfMemory) = ⊥

-- the same where that is asked for; else the host is as it was
abbrev pub WakesIf : {H : Type 0} → HostRules H → (asked : Bool) → Waker → (before after : H) → Result (Unit {0}) WaitFault → Type 0
WakesIf rules true w before after result = Wakes rules w before after result
WakesIf rules false w before after result = (after ≡ before) × (result ≡ Ok tt)

-- A timer that is at the moment already stays. Else its registration leaves the host, and a new timer stands in its place, which is not registered.
abbrev pub Turns : {H : Type 0} → HostRules H → (due : Option ℕ) → (old new : TimerValue) → (before after : H) → Type 0
Turns rules due old new before after =
    ((new.deadline ≡ due) × (new ≡ old) × (after ≡ before)) ⊎ ((new ≡ new_timer due None) × RemovesOwn rules (registration_of old) before after)

-- What is done to the host after a poll of the timer, by the fault that it told: where no id was left the waker is woken, and else nothing.
abbrev pub Answers : {H : Type 0} → HostRules H → Option TimerFault → Waker → (before after : H) → Result (Unit {0}) WaitFault → Type 0
Answers rules None w before after result = (after ≡ before) × (result ≡ Ok tt)
Answers rules (Some timer_fault.IdsSpent) w before after result = Wakes rules w before after result
Answers rules (Some (timer_fault.Notify fired f)) w before after result = (after ≡ before) × (result ≡ Err (fault.Notify f))
Answers rules (Some timer_fault.OutOfMemory) w before after result = (after ≡ before) × (result ≡ Err fault.OutOfMemory)

-- the timer was polled at this moment with the waker
pub record Registers {H : Type 0} (rules : HostRules H) (later : H → H → Type 0) (sure : H → Bool) (now : ℕ) (w : Waker)
    (old new : TimerValue) (before after : H) (result : Result (Unit {0}) WaitFault) : Type 0 where
  pub told : Option TimerFault
  pub until : H
  pub worked : Worked rules later sure (poll_work old now w) before until old new told
  pub answers : Answers rules told w until after result

-- The timer was set to a moment and polled.
pub record SetsTimer {H : Type 0} (rules : HostRules H) (later : H → H → Type 0) (sure : H → Bool) (due : Option ℕ) (now : ℕ) (w : Waker)
    (old new : TimerValue) (before after : H) (result : Result (Unit {0}) WaitFault) : Type 0 where
  pub turned : TimerValue
  pub between : H
  pub turns : Turns rules due old turned before between
  pub registers : Registers rules later sure now w turned new between after result

-- the timer is as it was, since the host refused to let its registration leave
abbrev pub StaysRegistered : {H : Type 0} → HostRules H → (old new : TimerValue) → (before after : H) → Result (Unit {0}) WaitFault → Type 0
StaysRegistered rules old new before after result =
    (result ≡ Err fault.OutOfMemory) × (new ≡ old) × RefusesRemoval rules (registration_of old) before after

-- How a pair waits, and all that it does to its host for that: it wakes its own waker where that is asked for, and then sets its timer.
pub record Waits {H : Type 0} (rules : HostRules H) (later : H → H → Type 0) (sure : H → Bool) (asked : Bool) (due : Option ℕ) (now : ℕ) (w : Waker)
    (old new : TimerValue) (before after : H) (result : Result (Unit {0}) WaitFault) : Type 0 where
  pub between : H
  pub woken : Result (Unit {0}) WaitFault
  pub wakes : WakesIf rules asked w before between woken
  pub sets : OnOk woken (SetsTimer rules later sure due now w old new between after result ⊎ StaysRegistered rules old new between after result)
  pub stops : OnErr woken ((result ≡ woken) × (new ≡ old) × (after ≡ between))

-- The registration of a timer is out, and the timer never fires; or the host refused that, and the timer is as it was.
abbrev pub GivesUp : {H : Type 0} → HostRules H → (old left : TimerValue) → (before after : H) → Type 0
GivesUp rules old left before after =
    ((left ≡ new_timer None None) × RemovesOwn rules (registration_of old) before after)
    ⊎ ((left ≡ old) × RefusesRemoval rules (registration_of old) before after)
