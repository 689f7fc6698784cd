-- That the poller in memory gives each event that it was told to give once, and in order.
use Rattle.std.specs.Prelude.{◌≡◌, List, [], ◌∷◌, ◌++◌, flat_map}
use Rattle.aio_base.specs.declared.names.Event.{Event}
use Rattle.aio_base.specs.declared.outcomes.Which.{Which}
use Rattle.aio_base.specs.declared.outcomes.Which.TheVariants as which
use Rattle.aio_base.specs.declared.steps.Step.{Step}
use Rattle.aio_base.specs.declared.steps.Step.TheVariants as step
use Rattle.aio_base.specs.World.{PollerAnswer, World, opening}
use Rattle.aio_base.specs.Machine.{next_answer}
use Rattle.aio_base.specs.Script.{script_answers, script_step, world_after}
use Rattle.aio_laws.specs.Succession.{events_given}

-- the event that a step notes
abbrev pub event_noted : Step → List Event
event_noted (step.Note event) = event ∷ []
event_noted _ = []

-- What waits gave, one after the other, and what is noted still are the events that these steps noted, in their order: none is lost, and none is given
-- twice.
abbrev pub IsGivenOnce : List Step → (given noted : List Event) → Type 0
IsGivenOnce steps given noted = (given ++ noted ≡ flat_map event_noted steps)

-- the events that a step of these calls was given where it waited, by what the poller answered
abbrev pub events_taken : List Which → List PollerAnswer → List Event
events_taken (which.Wait ∷ calls) answers = events_given (next_answer answers)
events_taken _ answers = []

-- what the waits of these steps gave, over the poller in memory
abbrev pub all_taken : World → List Step → List Event
all_taken w [] = []
all_taken w (s ∷ steps) = events_taken (script_step w s).calls (script_answers w s) ++ all_taken (script_step w s).world steps

-- so it is of a trace
abbrev pub EachIsGivenOnce : List Step → Type 0
EachIsGivenOnce steps = IsGivenOnce steps (all_taken opening steps) (world_after opening steps).noted
