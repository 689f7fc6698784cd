-- Runs of the machine for any answers of a poller: any lists of them, also answers that no poller may give to a call, and too few or too many.
use Rattle.std.specs.Prelude.{List, [], ◌∷◌, map}
use Rattle.aio_base.specs.declared.steps.Step.{Step}
use Rattle.aio_base.specs.declared.steps.Answer.{Answer}
use Rattle.aio_base.specs.declared.names.Waker.{Waker}
use Rattle.aio_base.specs.World.{PollerAnswer, World, nothing_due}
use Rattle.aio_base.specs.Machine.{Outcome, step_result}
use Rattle.aio_base.specs.Script.{script_answers, script_step}

-- a step with what the poller answers to the calls that the step makes
pub record PolledStep : Type 0 where
  pub step : Step
  pub answers : List PollerAnswer

-- what a step gives, from a world
abbrev pub outcome_of : World → PolledStep → Outcome
outcome_of w s = step_result w s.step s.answers

-- what each step of a run gives, by its position, each from the world that the one before it left
abbrev pub outcomes_of : World → List PolledStep → List Outcome
outcomes_of w [] = []
outcomes_of w (s ∷ run) = outcome_of w s ∷ outcomes_of (outcome_of w s).world run

-- the answers of a run, by the positions of its steps
abbrev pub answers_of : World → List PolledStep → List Answer
answers_of w run = map (λ (o : Outcome). o.answer) (outcomes_of w run)

-- the world after a run
abbrev pub world_of : World → List PolledStep → World
world_of w [] = w
world_of w (s ∷ run) = world_of (outcome_of w s).world run

-- The run of a list of steps in which the poller answers as the script says. It is the script that uses up what is noted and due; the machine
-- reads neither.
abbrev pub scripted : World → List Step → List PolledStep
scripted w [] = []
scripted w (s ∷ steps) = record { step = s; answers = script_answers w s } ∷ scripted (script_step w s).world steps

-- the wakes of each step of a run, by its position
abbrev pub wakes_of : World → List PolledStep → List (List Waker)
wakes_of w run = map (λ (o : Outcome). o.wakes) (outcomes_of w run)

-- the world but for what is noted and due
abbrev pub without_notes : World → World
without_notes w = record w { noted = []; due = nothing_due }

-- what a step gives but for what is noted and due
abbrev pub outcome_without_notes : Outcome → Outcome
outcome_without_notes o = record o { world = without_notes o.world }
