-- What contracts see of a source: plain lists and numbers.
use Rattle.std.specs.Prelude.{ℕ, Bool, [], Option, None, Some}
use Rattle.aio_base.specs.declared.names.Key.{Key}
use Rattle.aio_base.specs.declared.names.Waker.{Waker}
use Rattle.aio_base.specs.declared.names.Interest.{Interest}
use Rattle.aio_listen.specs.Listening.{Listening}

-- one direction: the last round that handled an event of it, and 0 before the first; the two numbers that were remembered when the last poll
-- waiter was stored, until it is told that it is ready; the poll waiter; and the listeners in the order of their first poll
pub record DirectionValue : Type 0 where
  pub tick : ℕ
  pub ticks : Option (ℕ × ℕ)
  pub waiter : Option Waker
  pub listeners : Listening Waker

-- the directions of a source
pub record DirectionValues : Type 0 where
  pub read : DirectionValue
  pub write : DirectionValue
  pub priority : DirectionValue

-- a source: its key, its directions, the interest that its last arm asked for, and whether that arm failed
pub record SourceValue : Type 0 where
  pub key : Key
  pub directions : DirectionValues
  pub asked : Interest
  pub broken : Bool

-- the listeners of a direction that are there, and none before the first came
abbrev pub listeners_in : Option (Listening Waker) → Listening Waker
listeners_in None = record { entries = []; drawn = 0 }
listeners_in (Some listeners) = listeners
