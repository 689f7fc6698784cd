-- Which sources are broken after a step: those whose last arm failed, with the position at which it did.
use Rattle.std.specs.Prelude.{◌≡◌, ◌≢◌, ℕ, if◌then◌else◌, List, [], map, filter}
use Rattle.aio_base.specs.declared.outcomes.Which.{Which}
use Rattle.aio_base.specs.declared.steps.Step.{Step}
use Rattle.aio_base.specs.declared.steps.Step.TheVariants as step
use Rattle.aio_base.specs.declared.steps.Answer.{Answer}
use Rattle.aio_base.specs.World.{PollerAnswer, BrokenSource, World, is_empty_list}
use Rattle.aio_laws.specs.Covered.{tells_arm_fault}
use Rattle.aio_laws.specs.Others.{is_own_broken, armed_sources}

-- those of the broken sources of a world that a step may break or mend
abbrev pub own_broken : World → Step → List PollerAnswer → World → List BrokenSource
own_broken w s answers v = filter (is_own_broken w s answers) v.broken

-- a source that breaks in the step from this world
abbrev pub breaks_here : World → ℕ → BrokenSource
breaks_here w serial = record { serial = serial; position = w.pos }

-- A step's own broken sources after it, by its answer and its calls. Where it tells that its arm failed, its source is broken, at this position. Where
-- it called the poller and tells no such thing, its source is not: it was armed, or is gone. Where it made no call, it is broken if it was.
abbrev pub own_broken_after : World → Step → List PollerAnswer → Answer → List Which → List BrokenSource
own_broken_after w s answers told calls =
    if tells_arm_fault told then map (breaks_here w) (armed_sources w s answers)
    else (if is_empty_list calls then own_broken w s answers w else [])

-- What a step that is no whole round leaves of its own source. Of a whole round, whose calls are several, `RoundArming` says it.
pub record BrokenFollows (w : World) (s : Step) (answers : List PollerAnswer) (told : Answer) (calls : List Which) (v : World) : Type 0 where
  pub own : s ≢ step.React → own_broken w s answers v ≡ own_broken_after w s answers told calls
