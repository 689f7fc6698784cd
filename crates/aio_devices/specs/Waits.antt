-- Halves of a poller in memory that wait: by keys, and by a script of answers.
use Rattle.std.specs.Prelude.{◌≡◌, ℕ, suc, zero, List, [], ◌∷◌, ◌++◌, Result, Ok, OnOk, is_err, min}
use Rattle.aio_base.specs.Devices.{WaitCall, raised}
use Rattle.aio_base.specs.declared.names.Event.{Event}
use Rattle.aio_base.specs.declared.names.TheConstants.Interest.{READ_WRITE}
use Rattle.aio_base.specs.declared.outcomes.Failed.{Failed}
use Rattle.aio_base.specs.declared.outcomes.Waited.{Waited}
use Rattle.aio_base.specs.declared.outcomes.Waited.TheVariants.{Given}
use Rattle.aio_devices.specs.Scripts.{ScriptValue, after_call, is_next_failing}

-- an event of reading and writing, without urgent readiness
abbrev pub read_write_of : ℕ → Event
read_write_of key = record { key = record { 0 = key }; on = READ_WRITE }

-- such an event for each of the first keys, in order
abbrev pub key_events : ℕ → List Event
key_events zero = []
key_events (suc n) = key_events n ++ read_write_of n ∷ []

-- for how many keys a wait gives events, and how many waits there were
pub record KeyWaits : Type 0 where
  pub keys : ℕ
  pub waits : ℕ

-- a wait that does not fail gives the events of these keys, or of the first of them that there is room for
pub record GivesKeys (keys : ℕ) (call : WaitCall) (answer : Result Waited Failed) (added : List Event) : Type 0 where
  pub told : answer ≡ Ok (Given (min keys call.room))
  pub events : added ≡ key_events (min keys call.room)

-- the relation of a wait that never fails
pub record WaitsByKeys (old : KeyWaits) (call : WaitCall) (answer : Result Waited Failed) (added : List Event) (new : KeyWaits) : Type 0 where
  pub gives : GivesKeys old.keys call answer added
  pub after : new ≡ record old { waits = raised old.waits }

-- for how many keys a wait gives events where it does not fail, and its calls
pub record FailingKeys : Type 0 where
  pub keys : ℕ
  pub script : ScriptValue

-- the relation of a wait that fails exactly where the script says so
pub record WaitsByScript (old : FailingKeys) (call : WaitCall) (answer : Result Waited Failed) (added : List Event) (new : FailingKeys) : Type 0 where
  pub fails : is_err answer ≡ is_next_failing old.script
  pub gives : OnOk answer (GivesKeys old.keys call answer added)
  pub after : new ≡ record old { script = after_call old.script }
