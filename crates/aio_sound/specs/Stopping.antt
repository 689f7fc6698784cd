-- A round of a core that want of memory stopped, as the law of stopped rounds asks it.
use Rattle.std.specs.Prelude.{ℕ, List, ◌++◌, Option}
use Rattle.std.specs.List.{All}
use Rattle.aio_base.specs.Devices.{Interests}
use Rattle.aio_base.specs.Runs.{world_of}
use Rattle.aio_base.specs.World.{PollerAnswer, World}
use Rattle.aio_laws.specs.Resuming.{begin_and_wait, AnswersEachCall, IsHandling}
use Rattle.aio_react.specs.Cores.{CoreValue}
use Rattle.aio_react.specs.Reacting.{handles_done}
use Rattle.aio_react.specs.Standing.{Stands}

-- From this world a round was begun and waited and handled some events, each of these with just the answers of its own calls; the core stands for the
-- world that they leave.
pub record StoppedFrom (w : World) (given : Option ℕ) (told : Option Interests) (core : CoreValue) : Type 0 where
  pub waited : PollerAnswer
  pub handled : List (List PollerAnswer)
  pub handles : All IsHandling (handles_done handled)
  pub each : AnswersEachCall w (begin_and_wait given waited ++ handles_done handled)
  pub stands : Stands told core (world_of w (begin_and_wait given waited ++ handles_done handled))
