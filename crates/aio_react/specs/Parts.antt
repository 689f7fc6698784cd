-- A call of a core meets a part of a longer step of the machine, at the position of that step.
use Rattle.std.specs.Prelude.{◌≡◌, ℕ, List, ◌++◌, map, Option}
use Rattle.aio_base.specs.declared.names.Waker.{Waker}
use Rattle.aio_base.specs.declared.steps.Answer.{Answer}
use Rattle.aio_base.specs.Devices.{PollerMove, Interests, RunOf}
use Rattle.aio_base.specs.Machine.{Outcome}
use Rattle.aio_base.specs.Moves.{answer_of}
use Rattle.aio_base.specs.World.{PollerAnswer, World}
use Rattle.aio_react.specs.Cores.{CoreValue}
use Rattle.aio_react.specs.Meeting.{kind_of, WaitsWithin, IsAt}
use Rattle.aio_react.specs.Standing.{StandsWithin}

-- what a part gives is what a call answered and woke, asked of its poller in this order, and left; the moment and the position stay, and the bound
-- of the past
pub record ComesWithin (bound : ℕ) (w : World) (o : Outcome) (answer : Answer) (wakes : List Waker) (moves : List PollerMove) (left : List PollerAnswer)
    (told : Option Interests) (core : CoreValue) : Type 0 where
  pub answer_is : o.answer ≡ answer
  pub wakes_are : o.wakes ≡ wakes
  pub calls_are : o.calls ≡ map kind_of moves
  pub left_are : o.left ≡ left
  pub moment_is : o.world.now ≡ w.now
  pub position_is : o.world.pos ≡ w.pos
  pub stands : StandsWithin bound told core o.world

-- The same as of a step, inside of one: for every bound of the past within which the core stood for a world.
pub record MeetsPart {P : Type 0} (poller_step : P → PollerMove → P → Type 0) (tells : P → Option Interests) (part : World → List PollerAnswer → Outcome)
    (now : Option ℕ) (answer : Answer) (wakes : List Waker) (limit : Option ℕ) (old new : P × CoreValue) : Type 0 where
  pub moves : List PollerMove
  pub run : RunOf poller_step old.0 moves new.0
  pub waits : WaitsWithin limit moves
  pub comes : (bound : ℕ) (w : World) (later : List PollerAnswer) → StandsWithin bound (tells old.0) old.1 w → IsAt now w
      → ComesWithin bound w (part w (map answer_of moves ++ later)) answer wakes moves later (tells new.0) new.1
