-- The script poller's rule for its answers, and the run of a list of steps by it.
use Rattle.std.specs.Prelude.{ℕ, Bool, false, if◌then◌else◌, List, [], ◌∷◌, ◌++◌, flat_map, take, drop}
use Rattle.aio_base.specs.declared.names.Waker.{Waker}
use Rattle.aio_base.specs.declared.outcomes.Which.{Which}
use Rattle.aio_base.specs.declared.outcomes.Which.TheVariants as which
use Rattle.aio_base.specs.declared.steps.Step.{Step}
use Rattle.aio_base.specs.declared.steps.Step.TheVariants as step
use Rattle.aio_base.specs.declared.steps.Answer.{Answer}
use Rattle.aio_base.specs.declared.steps.Answer.TheVariants as answer
use Rattle.aio_base.specs.World.{PollerAnswer, Succeeds, Gives, IsInterrupted, Fails, World, opening}
use Rattle.aio_base.specs.Machine.{Outcome, step_result}
use Rattle.aio_base.specs.Text.{answer_line, ended_line}

-- the events that one wait may give
abbrev pub wait_room : ℕ
wait_room = 1024

-- a call fails exactly where its kind is due
abbrev pub fails_where : Bool → PollerAnswer
fails_where due = if due then Fails else Succeeds

-- a wait fails where that is due; else it is interrupted where that is due; else it gives the first noted events
abbrev pub wait_answer : World → PollerAnswer
wait_answer w = if w.due.wait then Fails else (if w.due.interrupt then IsInterrupted else Gives (take wait_room w.noted))

-- The script poller's answers in a step: of a kind only the first call can fail, since the fault is due no longer after it.
abbrev pub script_answers : World → Step → List PollerAnswer
script_answers w step.Add = fails_where w.due.add ∷ []
script_answers w (step.Del key) = fails_where w.due.remove ∷ []
script_answers w (step.Poll key dir waker) = fails_where w.due.arm ∷ []
script_answers w (step.StepEar number waker) = fails_where w.due.arm ∷ []
script_answers w step.Handle = fails_where w.due.arm ∷ []
script_answers w step.Wait = wait_answer w ∷ []
script_answers w step.React = wait_answer w ∷ fails_where w.due.arm ∷ []
script_answers w _ = []

-- a wait uses up a fault, else an interrupt, else the events that it gives
abbrev pub after_wait : World → World
after_wait w =
    if w.due.wait then record w { due = record w.due { wait = false } }
    else (if w.due.interrupt then record w { due = record w.due { interrupt = false } } else record w { noted = drop wait_room w.noted })

abbrev pub after_call : Which → World → World
after_call which.Add w = record w { due = record w.due { add = false } }
after_call which.Arm w = record w { due = record w.due { arm = false } }
after_call which.Remove w = record w { due = record w.due { remove = false } }
after_call which.Wait w = after_wait w

-- what the calls of a step used up of what was due and noted
abbrev pub after_calls : List Which → World → World
after_calls [] w = w
after_calls (call ∷ calls) w = after_calls calls (after_call call w)

abbrev pub settled : Outcome → Outcome
settled o = record o { world = after_calls o.calls o.world }

-- a step over the script poller: the machine's, and what it used up is due and noted no longer
unfoldable pub script_step : World → Step → Outcome
script_step w s = settled (step_result w s (script_answers w s))

-- the text of an answer: its line and then one line for each wake
unfoldable pub reply_text : Answer → List Waker → List ℕ
reply_text a wakes = ended_line (answer_line a) ++ flat_map (λ waker. ended_line (answer_line (answer.Wake waker))) wakes

-- what each step of a run gives, by its position
abbrev pub outcomes_from : World → List Step → List Outcome
outcomes_from w [] = []
outcomes_from w (s ∷ steps) = script_step w s ∷ outcomes_from (script_step w s).world steps

-- the text of a run from a world
abbrev pub output_from : World → List Step → List ℕ
output_from w steps = flat_map (λ (o : Outcome). reply_text o.answer o.wakes) (outcomes_from w steps)

-- the world after a run
abbrev pub world_after : World → List Step → World
world_after w [] = w
world_after w (s ∷ steps) = world_after (script_step w s).world steps

-- what a trace of these steps writes
abbrev pub output : List Step → List ℕ
output steps = output_from opening steps
