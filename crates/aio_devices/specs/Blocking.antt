-- A half of a poller in memory whose waits last.
use Rattle.std.specs.Prelude.{◌≡◌, ℕ, ◌-◌, ◌^◌, ◌<◌, ◌≤◌, max, List, ◌++◌, Option, None, Some, Result, IsErr, is_ok, if◌then◌else◌, length}
use Rattle.aio_base.specs.Devices.{WaitCall, raised}
use Rattle.aio_base.specs.declared.names.Event.{Event}
use Rattle.aio_base.specs.declared.outcomes.Failed.{Failed}
use Rattle.aio_base.specs.declared.outcomes.Waited.{Waited}

-- how often a wait looks at most, how many waits there were, and how many of these failed
pub record BlockingWaits : Type 0 where
  pub most_looks : ℕ
  pub waits : ℕ
  pub faults : ℕ

-- so many events joined the list at its end, for which there was room
pub record Gives (room count : ℕ) (before after : List Event) : Type 0 where
  pub added : List Event
  pub joined : after ≡ before ++ added
  pub counted : length added ≡ count
  pub fits : count ≤ room

-- how often a wait with this limit, in nanoseconds, looks before it is over
abbrev pub looks_of : Option ℕ → ℕ
looks_of None = 2 ^ 64 - 1
looks_of (Some limit) = max limit 1

-- the relation of a wait: it fails only where it was to last longer than it may look
pub record WaitsBlocking (old : BlockingWaits) (call : WaitCall) (answer : Result Waited Failed) (added : List Event) (new : BlockingWaits) : Type 0 where
  pub bound : new.most_looks ≡ old.most_looks
  pub waits : new.waits ≡ raised old.waits
  pub faults : new.faults ≡ (if is_ok answer then old.faults else raised old.faults)
  pub long : IsErr answer → old.most_looks < looks_of call.limit
