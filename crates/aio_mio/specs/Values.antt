-- What contracts see of the devices over the system.
use Rattle.std.specs.Prelude.{ℕ, List, Option}
use Rattle.aio_base.specs.declared.names.Event.{Event}
use Rattle.aio_base.specs.declared.names.Interest.{Interest}
use Rattle.aio_base.specs.declared.names.Key.{Key}

-- a connection: its key, the directions that the system watches, and its count of faults
pub record ConnValue : Type 0 where
  pub key : Key
  pub watched : Interest
  pub faults : ℕ

-- the half that waits: the events that came at its last look and that no wait has given yet, and its counts of waits and of faults
pub record WaitValue : Type 0 where
  pub left : List Event
  pub waits : ℕ
  pub faults : ℕ

-- a notifier: its counts of notifies and of faults
pub record NotifyValue : Type 0 where
  pub calls : ℕ
  pub faults : ℕ

-- a port: its count of faults
pub record PortValue : Type 0 where
  pub faults : ℕ

-- a clock: what the machine's clock showed at its first look, in nanoseconds, once that was had; and the latest moment that it answered
pub record ClockValue : Type 0 where
  pub start : Option ℕ
  pub latest : ℕ
