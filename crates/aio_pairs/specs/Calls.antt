-- The calls that a pair makes on one of its ends, and on the host that they are handed.
use Rattle.std.specs.Prelude.{◌≡◌, ℕ, ◌≤◌, Bool, false, List, None, Option, Some, Result, Ok, take}
use Rattle.aio_base.specs.Connections.{ConnMove}
use Rattle.aio_base.specs.Devices.{ArmCall, Interests, Rose}
use Rattle.aio_base.specs.declared.names.Dir.TheVariants.{Read, Write}
use Rattle.aio_base.specs.declared.names.Waker.{Waker}
use Rattle.aio_base.specs.declared.outcomes.CountFault.{CountFault}
use Rattle.aio_base.specs.declared.outcomes.Failed.{Failed}
use Rattle.aio_future.specs.Tries.{Tries, read_call, bytes_over, write_call}
use Rattle.aio_future.specs.declared.tried.Tried.{Tried}
use Rattle.aio_future.specs.declared.tried.TryFault.TheVariants as fault
use Rattle.aio_base.specs.Hosts.{HostRules, NotifierTells, wake_fault}
use Rattle.aio_pairs.specs.declared.outcomes.EndTried.{EndTried}
use Rattle.aio_source.specs.Values.{SourceValue}

-- A call with what it answered: a read had so much room and gave these bytes; a write was handed this piece.
pub data EndCall : Type 0 where
  Reads : (room : ℕ) → Waker → EndTried → (bytes : List ℕ) → EndCall
  Writes : (piece : List ℕ) → Waker → EndTried → EndCall

-- the waker of a call, and what it came to
abbrev pub waker_in : EndCall → Waker
waker_in (Reads room w tried bytes) = w
waker_in (Writes piece w tried) = w

abbrev pub tried_in : EndCall → EndTried
tried_in (Reads room w tried bytes) = tried
tried_in (Writes piece w tried) = tried

-- ## Ends over a source

-- what the entered source answered
abbrev pub entered : EndTried → Tried
entered tried = record { answer = tried.answer; replaced = tried.replaced }

-- What entering a source with the rounds that the host told makes of a call. A read leaves the bytes that it gave at the front of the buffer.
pub record EntersToRead {C : Type 0} (conn_step : C → ConnMove → C → Type 0) (arm_step : C → ArmCall → Result (Unit {0}) Failed → C → Type 0)
    (interests : C → Option Interests) (rest : C → List ℕ) (count : C → ℕ) (sure : C → Bool) (source : SourceValue) (conn : C)
    (room : ℕ) (w : Waker) (tried : EndTried) (bytes : List ℕ) (source_after : SourceValue) (conn_after : C) : Type 0 where
  pub buffer : List ℕ
  pub given : bytes ≡ take (bytes_over tried.answer) buffer
  pub tries : Tries conn_step arm_step interests rest count sure (read_call room buffer) fault.Read Read w tried.rounds source conn (entered tried) source_after conn_after

pub record EntersToWrite {C : Type 0} (conn_step : C → ConnMove → C → Type 0) (arm_step : C → ArmCall → Result (Unit {0}) Failed → C → Type 0)
    (interests : C → Option Interests) (rest : C → List ℕ) (count : C → ℕ) (sure : C → Bool) (source : SourceValue) (conn : C)
    (piece : List ℕ) (w : Waker) (tried : EndTried) (source_after : SourceValue) (conn_after : C) : Type 0 where
  pub tries : Tries conn_step arm_step interests rest count sure (write_call piece) fault.Write Write w tried.rounds source conn (entered tried) source_after conn_after

abbrev pub Enters : {C : Type 0} → (C → ConnMove → C → Type 0) → (C → ArmCall → Result (Unit {0}) Failed → C → Type 0) → (C → Option Interests)
    → (C → List ℕ) → (C → ℕ) → (C → Bool) → SourceValue → C → EndCall → SourceValue → C → Type 0
Enters conn_step arm_step interests rest count sure source conn (Reads room w tried bytes) source_after conn_after =
    EntersToRead conn_step arm_step interests rest count sure source conn room w tried bytes source_after conn_after
Enters conn_step arm_step interests rest count sure source conn (Writes piece w tried) source_after conn_after =
    EntersToWrite conn_step arm_step interests rest count sure source conn piece w tried source_after conn_after

-- ## Hosts

-- The host once the waker that a call replaced was woken with this answer. Where nobody was replaced the host is as it was, and no fault is told.
abbrev pub WakesReplaced : {H : Type 0} → HostRules H → Option Waker → (woken : Result (Unit {0}) CountFault) → (before after : H) → Type 0
WakesReplaced rules None woken before after = (after ≡ before) × (woken ≡ Ok tt)
WakesReplaced rules (Some waker) woken before after = rules.woke before waker woken after

-- A call of an end looks at the host's rounds, and then wakes whom it replaced. Nothing else is done to the host: no pass and no id goes by, and its
-- notifier tells no fault but that of the wake.
pub record LeavesHost {H : Type 0} (rules : HostRules H) (later : H → H → Type 0) (sure : H → Bool) (tried : EndTried) (before after : H) : Type 0 where
  pub between : H
  pub looks : rules.looked before tried.rounds between
  pub wakes : WakesReplaced rules tried.replaced tried.woken between after
  pub silent : NotifierTells (sure before) (rules.faults before) (rules.faults between) None
  pub tells : NotifierTells (sure before) (rules.faults between) (rules.faults after) (wake_fault tried.woken)
  pub goes : later before after
  pub same_pass : rules.pass after ≡ rules.pass before
  pub no_id : rules.drawn after ≡ rules.drawn before

-- A call for the task of this waker, on a host.
pub record CallsFor {H : Type 0} (rules : HostRules H) (later : H → H → Type 0) (sure : H → Bool) (w : Waker) (before : H) (call : EndCall) (after : H) : Type 0 where
  pub own : waker_in call ≡ w
  pub leaves : LeavesHost rules later sure (tried_in call) before after

-- What several calls leave of a host: a later state, with no fewer faults of its notifier.
pub record HostGoesOn {H : Type 0} (rules : HostRules H) (later : H → H → Type 0) (before after : H) : Type 0 where
  pub goes : later before after
  pub faults : rules.faults before ≤ rules.faults after

-- a fault whose two counts lie between these, of something that is not sure
abbrev pub RoseIn : (before after : ℕ) → (sure : Bool) → CountFault → Type 0
RoseIn before after sure f = (sure ≡ false) × (before ≤ f.before) × Rose f.before f.after × (f.after ≤ after)
