-- What the operations on registered timers mean, and the timer that fires first.
use Rattle.std.specs.Prelude.{ℕ, ◌≡◌, Bool, false, nat_le, List, [], ◌∷◌, Option, None, Some}
use Rattle.aio_base.specs.World.{Registration}
use Rattle.aio_base.specs.Timers.{BookChange, Registers, Unregisters, placed, is_pair, without_pair}
use Rattle.aio_base.specs.declared.names.TimerId.{TimerId}
use Rattle.aio_timers.specs.declared.op.TimerOp.{TimerOp}
use Rattle.aio_timers.specs.declared.op.TimerOp.TheVariants.{Insert, Remove}

-- the change of the book that an operation is
abbrev pub change_of : TimerOp → BookChange
change_of (Insert deadline id waker) =
    Registers (record { id = id.0; deadline = deadline; waker = waker })
change_of (Remove deadline id) = Unregisters deadline id.0

-- for how many more timers there has to be room
abbrev pub entries_needed : TimerOp → ℕ
entries_needed (Insert deadline id waker) = 1
entries_needed (Remove deadline id) = 0

-- the deadline and the id of the registration at the front
abbrev pub first_pair : List Registration → Option (ℕ × TimerId)
first_pair [] = None
first_pair (r ∷ book) = Some (r.deadline, record { 0 = r.id })

-- whether the registration at the front is due at a moment
abbrev pub is_first_due : ℕ → List Registration → Bool
is_first_due now [] = false
is_first_due now (r ∷ book) = nat_le r.deadline now

-- a registration has this deadline and this id, and another one stands at the front
pub record IsBehind (entries : List Registration) (deadline id : ℕ) : Type 0 where
  pub registration : Registration
  pub deadline_is : registration.deadline ≡ deadline
  pub id_is : registration.id ≡ id
  pub placed_is : entries ≡ placed registration (without_pair deadline id entries)
  pub front : (first : Registration) (more : List Registration) → entries ≡ first ∷ more
      → is_pair deadline id first ≡ false
