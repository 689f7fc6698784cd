-- What sets the clock.
use Rattle.std.specs.Prelude.{◌≡◌, ℕ, nat_lt, if◌then◌else◌}
use Rattle.aio_base.specs.declared.steps.Step.{Step}
use Rattle.aio_base.specs.declared.steps.Step.TheVariants as step
use Rattle.aio_base.specs.declared.steps.Answer.{Answer}
use Rattle.aio_base.specs.declared.steps.Answer.TheVariants as answer
use Rattle.aio_base.specs.World.{World}

-- the clock's moment after a step: a `now` that is answered `at` sets it to the moment that is told, and nothing else moves it
abbrev pub clock_after : World → Step → Answer → ℕ
clock_after w (step.Now moment) (answer.At told) = told
clock_after w _ told = w.now

-- a `now` is answered with its own moment, or with the clock's where its own has passed
abbrev pub TellsTheMoment : World → Step → Answer → Type 0
TellsTheMoment w (step.Now moment) told = (told ≡ (if nat_lt moment w.now then answer.Back w.now else answer.At moment))
TellsTheMoment w _ told = Unit {0}

pub record ClockIsSet (w : World) (s : Step) (told : Answer) (v : World) : Type 0 where
  pub now : v.now ≡ clock_after w s told
  pub moment : TellsTheMoment w s told
