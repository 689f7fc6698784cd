-- What a wait gives of the events that came.
use Rattle.std.specs.Prelude.{◌≡◌, ◌≢◌, ℕ, ◌==◌, Bool, if◌then◌else◌, List, [], take, drop, Option, Some, None, Result, Ok, Err}
use Rattle.aio_base.specs.Devices.{WaitCall}
use Rattle.aio_base.specs.declared.names.Event.{Event}
use Rattle.aio_base.specs.declared.outcomes.Failed.{Failed}
use Rattle.aio_base.specs.declared.outcomes.Waited.{Waited}
use Rattle.aio_base.specs.declared.outcomes.Waited.TheVariants.{Given, Interrupted}
use Rattle.aio_mio.specs.Values.{WaitValue}
use Rattle.aio_mio.specs.declared.wakes.Plan.{Plan}
use Rattle.aio_mio.specs.declared.wakes.Plan.TheVariants.{PassesOver, Looks}

-- what a wait with this limit does where it was told to end, and the wait before it looked
abbrev pub planned_first : (limit : Option ℕ) → Plan
planned_first None = PassesOver
planned_first (Some nanoseconds) = if nanoseconds == 0 then Looks (Some 0) else PassesOver

-- What a wait does that has this limit. One that was told to end before it began never waits; it looks only where it has no time in any case, or where
-- the wait before it was passed over.
abbrev pub planned : (told passed : Bool) → (limit : Option ℕ) → Plan
planned told passed limit = if told then (if passed then Looks (Some 0) else planned_first limit) else Looks limit

-- The first events of what came are given, as many as there is room for, and the others are left. A new look is made only where none was left.
pub record GivesOn (old : List Event) (room : ℕ) (added new : List Event) : Type 0 where
  pub came : List Event
  pub kept : old ≢ [] → came ≡ old
  pub first : added ≡ take room came
  pub left : new ≡ drop room came

-- the relation of a wait: no event that came is lost, none is given twice, and they are given in the order in which they came
abbrev pub WaitsInOrder : WaitValue → WaitCall → Result Waited Failed → List Event → WaitValue → Type 0
WaitsInOrder old call (Ok (Given n)) added new = GivesOn old.left call.room added new.left
WaitsInOrder old call (Ok Interrupted) added new = (old.left ≡ []) × (new.left ≡ [])
WaitsInOrder old call (Err failed) added new = (old.left ≡ []) × (new.left ≡ [])
