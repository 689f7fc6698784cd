-- A poller in memory as contracts see it, and what its calls make of it.
use Rattle.std.specs.Prelude.{◌≡◌, ℕ, Bool, false, if◌then◌else◌, List, [], Result, Ok, Err, length, take, drop, min}
use Rattle.aio_base.specs.declared.names.Interest.{Interest}
use Rattle.aio_base.specs.declared.names.Event.{Event}
use Rattle.aio_base.specs.declared.outcomes.DueFaults.{DueFaults}
use Rattle.aio_base.specs.declared.outcomes.Failed.{Failed}
use Rattle.aio_base.specs.declared.outcomes.Waited.{Waited}
use Rattle.aio_base.specs.declared.outcomes.Waited.TheVariants.{Given, Interrupted}
use Rattle.aio_base.specs.Devices.{Interests, raised, ArmCall, AddOf, ArmOf, RemoveOf, WaitCall}
use Rattle.aio_base.specs.World.{nothing_due}
use Rattle.aio_script.specs.Interests.{interests_in, none_armed, entries_after, cleared}

-- A poller in memory: the interest of each key in the order of the keys, the events that are noted and not yet given, what its next calls are told to answer, and its counts of faults and of waits.
pub record Script : Type 0 where
  pub armed : List Interest
  pub noted : List Event
  pub due : DueFaults
  pub faults : ℕ
  pub waits : ℕ

-- the interest of each key; a key past the last entry has none
abbrev pub interests_of : Script → Interests
interests_of script = interests_in script.armed

-- a poller that was just made
abbrev pub new_script : Script
new_script = record { armed = none_armed; noted = []; due = nothing_due; faults = 0; waits = 0 }

-- whether a failure of such a call is due
abbrev pub is_due : ArmCall → DueFaults → Bool
is_due (AddOf key) due = due.add
is_due (ArmOf key on) due = due.arm
is_due (RemoveOf key) due = due.remove

-- a failure that was answered is due no longer
abbrev pub without_failure : ArmCall → DueFaults → DueFaults
without_failure (AddOf key) due = record due { add = false }
without_failure (ArmOf key on) due = record due { arm = false }
without_failure (RemoveOf key) due = record due { remove = false }

-- what a call that changes one key's interest comes to: its answer, and the poller after it
pub record ArmOutcome : Type 0 where
  pub answer : Result (Unit {0}) Failed
  pub after : Script

abbrev pub failed_arm : Script → ArmCall → ArmOutcome
failed_arm old call = record { answer = Err (record {}); after = record old { due = without_failure call old.due; faults = raised old.faults } }

abbrev pub done_arm : Script → ArmCall → ArmOutcome
done_arm old call = record { answer = Ok tt; after = record old { armed = entries_after call old.armed } }

-- it fails exactly where a failure of its kind is due
abbrev pub script_arm : Script → ArmCall → ArmOutcome
script_arm old call = if is_due call old.due then failed_arm old call else done_arm old call

-- the relation of an arming call: answer and poller after it are those that `script_arm` names
abbrev pub ScriptArms : Script → ArmCall → Result (Unit {0}) Failed → Script → Type 0
ScriptArms old call result new = script_arm old call ≡ record { answer = result; after = new }

-- what a wait comes to: its answer, the events that it adds, and the poller after it
pub record WaitOutcome : Type 0 where
  pub answer : Result Waited Failed
  pub added : List Event
  pub after : Script

abbrev pub failed_wait : Script → WaitOutcome
failed_wait old = record { answer = Err (record {}); added = []; after = record old { due = record old.due { wait = false }; faults = raised old.faults; waits = raised old.waits } }

abbrev pub interrupted_wait : Script → WaitOutcome
interrupted_wait old = record { answer = Ok Interrupted; added = []; after = record old { due = record old.due { interrupt = false }; waits = raised old.waits } }

-- the first `room` noted events, or all where there are fewer
abbrev pub giving_wait : Script → ℕ → WaitOutcome
giving_wait old room = record { answer = Ok (Given (min room (length old.noted))); added = take room old.noted; after = record old { armed = cleared (take room old.noted) old.armed; noted = drop room old.noted; waits = raised old.waits } }

-- a due failure comes before a due interrupt, and both before the noted events
abbrev pub script_wait : Script → ℕ → WaitOutcome
script_wait old room = if old.due.wait then failed_wait old else (if old.due.interrupt then interrupted_wait old else giving_wait old room)

-- the relation of a wait: answer, events and poller after it are those that `script_wait` names
abbrev pub ScriptWaits : Script → WaitCall → Result Waited Failed → List Event → Script → Type 0
ScriptWaits old call result events new = script_wait old call.room ≡ record { answer = result; added = events; after = new }
