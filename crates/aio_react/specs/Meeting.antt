-- A call of a core meets a step of the machine: whatever its poller answered, the step gives the same for these answers.
use Rattle.std.specs.Prelude.{◌≡◌, ℕ, List, [], ◌∷◌, ◌++◌, map, Option, None, Some, ⊤}
use Rattle.aio_base.specs.declared.names.Waker.{Waker}
use Rattle.aio_base.specs.declared.outcomes.Which.{Which}
use Rattle.aio_base.specs.declared.outcomes.Which.TheVariants as which
use Rattle.aio_base.specs.declared.steps.Answer.{Answer}
use Rattle.aio_base.specs.declared.steps.Step.{Step}
use Rattle.aio_base.specs.Devices.{PollerMove, Armed, Awaited, AddOf, ArmOf, RemoveOf, Interests, RunOf}
use Rattle.aio_base.specs.Machine.{Outcome, step_result}
use Rattle.aio_base.specs.Moves.{answer_of}
use Rattle.aio_base.specs.Waits.{IsCountOf}
use Rattle.aio_base.specs.World.{PollerAnswer, World}
use Rattle.aio_react.specs.Cores.{CoreValue}
use Rattle.aio_react.specs.Rounds.{wait_of}
use Rattle.aio_react.specs.Standing.{Stands}

abbrev pub kind_of : PollerMove → Which
kind_of (Armed (AddOf key) answer) = which.Add
kind_of (Armed (ArmOf key on) answer) = which.Arm
kind_of (Armed (RemoveOf key) answer) = which.Remove
kind_of (Awaited call answer events) = which.Wait

-- each wait is the one that a round with this limit makes, and gave what a poller may give: no more events than it was asked for
abbrev pub WaitsWithin : Option ℕ → List PollerMove → Type 0
WaitsWithin limit [] = ⊤
WaitsWithin limit (Armed call answer ∷ moves) = WaitsWithin limit moves
WaitsWithin limit (Awaited call answer events ∷ moves) = (call ≡ wait_of limit) × IsCountOf answer call.room events × WaitsWithin limit moves

-- what a step gives is what a call answered and woke, asked of its poller in this order, and left
pub record Comes (o : Outcome) (answer : Answer) (wakes : List Waker) (moves : List PollerMove) (left : List PollerAnswer) (told : Option Interests) (core : CoreValue) : Type 0 where
  pub answer_is : o.answer ≡ answer
  pub wakes_are : o.wakes ≡ wakes
  pub calls_are : o.calls ≡ map kind_of moves
  pub left_are : o.left ≡ left
  pub stands : Stands told core o.world

-- a moment that a call takes is the world's
abbrev pub IsAt : Option ℕ → World → Type 0
IsAt None w = ⊤
IsAt (Some now) w = w.now ≡ now

-- A call at a moment led a core and its poller from the one state to the other by these moves. For every world that the core stood for at this
-- moment, and whatever the poller would answer later, what is done of the machine gives the same.
pub record MeetsBy {P : Type 0} (poller_step : P → PollerMove → P → Type 0) (tells : P → Option Interests) (done : World → List PollerAnswer → Outcome)
    (now : Option ℕ) (answer : Answer) (wakes : List Waker) (limit : Option ℕ) (old new : P × CoreValue) : Type 0 where
  pub moves : List PollerMove
  pub run : RunOf poller_step old.0 moves new.0
  pub waits : WaitsWithin limit moves
  pub comes : (w : World) (later : List PollerAnswer) → Stands (tells old.0) old.1 w → IsAt now w
      → Comes (done w (map answer_of moves ++ later)) answer wakes moves later (tells new.0) new.1

-- a step is done
abbrev pub Meets : {P : Type 0} → (P → PollerMove → P → Type 0) → (P → Option Interests) → Step → Option ℕ → Answer → List Waker → Option ℕ
    → P × CoreValue → P × CoreValue → Type 0
Meets poller_step tells s now answer wakes limit old new =
    MeetsBy poller_step tells (λ w answers. step_result w s answers) now answer wakes limit old new
