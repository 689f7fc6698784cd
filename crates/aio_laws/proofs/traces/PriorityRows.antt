-- Worked runs with three directions, computed: what each step answers, whom it wakes, and what is armed then.
use Rattle.std.proofs.Common.{◌≡◌, List, [], ◌∷◌, true, false, refl}
use Rattle.aio_base.specs.declared.names.Dir.TheVariants.{Read, Write, Priority}
use Rattle.aio_base.specs.declared.names.Interest.{Interest}
use Rattle.aio_base.specs.declared.names.TheConstants.Interest.{ALL, PRIORITY}
use Rattle.aio_base.specs.declared.names.Waker.{Waker}
use Rattle.aio_base.specs.declared.outcomes.EndWord.TheVariants.{Clean}
use Rattle.aio_base.specs.declared.steps.Answer.TheVariants as answer
use Rattle.aio_base.specs.declared.steps.Step.{Step}
use Rattle.aio_base.specs.declared.steps.Step.TheVariants as step
use Rattle.aio_base.specs.World.{World, opening}
use Rattle.aio_base.specs.Machine.{step_result}
use Rattle.aio_base.specs.Moves.{interests_of}
use Rattle.aio_base.specs.Script.{script_step}
use Rattle.aio_base.specs.Runs.{answers_of, wakes_of, scripted, world_of}
use Rattle.aio_laws.proofs.traces.Words.{key, waker, poll, event}

abbrev three_wait : List Step
three_wait = step.Add ∷ poll 0 Priority 3 ∷ poll 0 Read 1 ∷ poll 0 Write 2 ∷ []

abbrev after : List Step → World
after steps = world_of opening (scripted opening steps)

-- all three are armed
pub three_waiters_arm_all_three : interests_of (after three_wait).armed 0 ≡ ALL
unfolding step_result script_step
three_waiters_arm_all_three = refl

-- one event takes the waiters of Write, then of Read, then of Priority
abbrev taken : List Step
taken = step.Add ∷ poll 0 Priority 3 ∷ poll 0 Read 1 ∷ poll 0 Write 2 ∷ event 0 ALL ∷ step.React ∷ []

pub one_event_answers_for_all_three :
    answers_of opening (scripted opening taken)
    ≡ answer.KeyIs (key 0) ∷ answer.Pending ∷ answer.Pending ∷ answer.Pending ∷ answer.Noted ∷ answer.Round 1 1 Clean ∷ []
unfolding step_result script_step
one_event_answers_for_all_three = refl

pub priority_is_woken_last : wakes_of opening (scripted opening taken) ≡ [] ∷ [] ∷ [] ∷ [] ∷ [] ∷ (waker 2 ∷ waker 1 ∷ waker 3 ∷ []) ∷ []
unfolding step_result script_step
priority_is_woken_last = refl

-- then a poll of Priority is ready once, and the next one arms Priority alone
abbrev polled_again : List Step
polled_again = step.Add ∷ poll 0 Priority 3 ∷ poll 0 Read 1 ∷ poll 0 Write 2 ∷ event 0 ALL ∷ step.React ∷ poll 0 Priority 3 ∷ poll 0 Priority 3 ∷ []

pub priority_is_ready_once :
    answers_of opening (scripted opening polled_again)
    ≡ answer.KeyIs (key 0) ∷ answer.Pending ∷ answer.Pending ∷ answer.Pending ∷ answer.Noted ∷ answer.Round 1 1 Clean ∷ answer.Ready ∷ answer.Pending ∷ []
unfolding step_result script_step
priority_is_ready_once = refl

pub priority_alone_is_armed : interests_of (after polled_again).armed 0 ≡ PRIORITY
unfolding step_result script_step
priority_alone_is_armed = refl
