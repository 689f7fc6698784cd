-- Worked traces, computed: the numbers of the storings that each step woke, those that were given up, and those that stand at the end; and which
-- answers tell that an arm failed, with the source that stays broken.
use Rattle.std.proofs.Common.{◌≡◌, ℕ, Bool, List, [], ◌∷◌, map, true, false, None, refl}
use Rattle.aio_base.specs.declared.names.Dir.TheVariants.{Read, Write}
use Rattle.aio_base.specs.declared.outcomes.Which.TheVariants as which
use Rattle.aio_base.specs.declared.steps.Step.{Step}
use Rattle.aio_base.specs.declared.steps.Step.TheVariants as step
use Rattle.aio_base.specs.World.{BrokenSource, opening}
use Rattle.aio_base.specs.Machine.{step_result}
use Rattle.aio_base.specs.Script.{script_step}
use Rattle.aio_laws.specs.Covered.{tells_arm_fault}
use Rattle.aio_base.specs.Runs.{answers_of, scripted, world_of}
use Rattle.aio_laws.specs.Storings.{Stored, Storings, storings_of}
use Rattle.aio_laws.proofs.traces.Words.{key, reads, writes, poll, new, listen, tick, event}

-- ## Words for steps and storings

-- storings by their numbers
record Numbers : Type 0 where
  woken : List (List ℕ)
  given_up : List ℕ
  standing : List ℕ

abbrev number_of : Stored → ℕ
number_of s = s.number

abbrev numbers_in : Storings → Numbers
numbers_in l = record { woken = map (map number_of) l.woken; given_up = map number_of l.given_up; standing = map number_of l.standing }

abbrev numbers : List Step → Numbers
numbers steps = numbers_in (storings_of opening (scripted opening steps))

-- ## Rows

-- the waiter that was stored after the round began is woken, and its task's next poll stores anew
pub a_waiter_of_the_running_round_is_woken_by_its_finish :
    numbers (step.Add ∷ step.Begin None ∷ poll 0 Read 7 ∷ event 0 reads ∷ step.Wait ∷ step.Handle ∷ step.Finish ∷ poll 0 Read 7 ∷ [])
    ≡ record { woken = [] ∷ [] ∷ [] ∷ [] ∷ [] ∷ [] ∷ (0 ∷ []) ∷ [] ∷ []; given_up = []; standing = 1 ∷ [] }
unfolding step_result script_step
a_waiter_of_the_running_round_is_woken_by_its_finish = refl

-- a poll that replaces a waiter wakes it
pub a_replaced_waiter_is_woken :
    numbers (step.Add ∷ poll 0 Read 1 ∷ poll 0 Read 2 ∷ [])
    ≡ record { woken = [] ∷ [] ∷ (0 ∷ []) ∷ []; given_up = []; standing = 1 ∷ [] }
unfolding step_result script_step
a_replaced_waiter_is_woken = refl

-- the same waker is not stored again, and a failed arm loses no storing
pub a_failed_arm_loses_no_storing :
    numbers (step.Add ∷ poll 0 Read 1 ∷ poll 0 Write 2 ∷ step.Fault which.Arm ∷ event 0 reads ∷ step.React ∷ poll 0 Write 2 ∷ event 0 writes ∷ step.React ∷
    [])
    ≡ record { woken = [] ∷ [] ∷ [] ∷ [] ∷ [] ∷ (0 ∷ []) ∷ [] ∷ [] ∷ (1 ∷ []) ∷ []; given_up = []; standing = [] }
unfolding step_result script_step
a_failed_arm_loses_no_storing = refl

-- a source that is taken out gives its waiter up, and the waiter of the next source with its key is another storing
pub a_source_taken_out_gives_its_waiter_up :
    numbers (step.Add ∷ poll 0 Read 1 ∷ event 0 reads ∷ step.Begin None ∷ step.Wait ∷ step.Del (key 0) ∷ step.Add ∷ poll 0 Read 2 ∷ step.Handle ∷
    step.Finish ∷ poll 0 Read 2 ∷ [])
    ≡ record { woken = [] ∷ [] ∷ [] ∷ [] ∷ [] ∷ [] ∷ [] ∷ [] ∷ [] ∷ (1 ∷ []) ∷ [] ∷ []; given_up = 0 ∷ []; standing = 2 ∷ [] }
unfolding step_result script_step
a_source_taken_out_gives_its_waiter_up = refl

-- listeners are woken in the order of their first polls; one that is given up is not, and one that is ready stores nothing
pub listeners_are_woken_but_for_the_one_given_up :
    numbers (step.Add ∷ new 0 Read ∷ new 0 Read ∷ new 0 Read ∷ listen 1 11 ∷ listen 2 12 ∷ listen 3 13 ∷ step.DropEar 2 ∷ new 0 Read ∷ listen 4 14 ∷
    event 0 reads ∷ step.React ∷ listen 4 14 ∷ listen 4 14 ∷ [])
    ≡ record { woken = [] ∷ [] ∷ [] ∷ [] ∷ [] ∷ [] ∷ [] ∷ [] ∷ [] ∷ [] ∷ [] ∷ (0 ∷ 2 ∷ 3 ∷ []) ∷ [] ∷ [] ∷ []; given_up = 1 ∷ []; standing = [] }
unfolding step_result script_step
listeners_are_woken_but_for_the_one_given_up = refl

-- a listener's later poll gives its own earlier storing up, also with the same waker
pub a_later_poll_of_a_listener_gives_its_own_storing_up :
    numbers (step.Add ∷ new 0 Write ∷ listen 1 5 ∷ listen 1 5 ∷ listen 1 6 ∷ event 0 writes ∷ step.React ∷ [])
    ≡ record { woken = [] ∷ [] ∷ [] ∷ [] ∷ [] ∷ [] ∷ (2 ∷ []) ∷ []; given_up = 0 ∷ 1 ∷ []; standing = [] }
unfolding step_result script_step
a_later_poll_of_a_listener_gives_its_own_storing_up = refl

-- a period registers the timer anew at each deadline that the task has seen
pub a_period_registers_anew :
    numbers (step.TimerEvery 10 10 ∷ step.Now 35 ∷ tick 1 5 ∷ tick 1 5 ∷ tick 1 5 ∷ tick 1 5 ∷ [])
    ≡ record { woken = [] ∷ [] ∷ [] ∷ [] ∷ [] ∷ [] ∷ []; given_up = 0 ∷ 1 ∷ []; standing = 2 ∷ [] }
unfolding step_result script_step
a_period_registers_anew = refl

-- a timer that is set while a waker is kept gives its registration up and is registered anew; the pass wakes the new one alone
pub a_timer_set_anew_is_woken_once :
    numbers (step.TimerAt 50 ∷ tick 1 5 ∷ step.SetAt 1 20 ∷ step.Now 60 ∷ step.React ∷ tick 1 5 ∷ [])
    ≡ record { woken = [] ∷ [] ∷ [] ∷ [] ∷ (1 ∷ []) ∷ [] ∷ []; given_up = 0 ∷ []; standing = [] }
unfolding step_result script_step
a_timer_set_anew_is_woken_once = refl

-- ## Faults of an arm

-- which answers tell that an arm failed, and which sources are broken at the end
record Faults : Type 0 where
  told : List Bool
  broken : List BrokenSource

abbrev faults : List Step → Faults
faults steps = record { told = map tells_arm_fault (answers_of opening (scripted opening steps)); broken = (world_of opening (scripted opening steps)).broken }

-- a poll tells it, and the next poll arms again
pub a_poll_tells_that_its_arm_failed :
    faults (step.Add ∷ poll 0 Read 1 ∷ step.Fault which.Arm ∷ poll 0 Read 1 ∷ poll 0 Write 2 ∷ [])
    ≡ record { told = false ∷ false ∷ false ∷ false ∷ true ∷ []; broken = record { serial = 1; position = 4 } ∷ [] }
unfolding step_result script_step
a_poll_tells_that_its_arm_failed = refl

pub an_arm_that_succeeds_repairs :
    faults (step.Add ∷ poll 0 Read 1 ∷ step.Fault which.Arm ∷ poll 0 Read 1 ∷ poll 0 Write 2 ∷ poll 0 Read 1 ∷ [])
    ≡ record { told = false ∷ false ∷ false ∷ false ∷ true ∷ false ∷ []; broken = [] }
unfolding step_result script_step
an_arm_that_succeeds_repairs = refl

-- a whole round tells it at its end
pub a_whole_round_tells_that_an_arm_failed :
    faults (step.Add ∷ poll 0 Read 1 ∷ poll 0 Write 2 ∷ step.Fault which.Arm ∷ event 0 reads ∷ step.React ∷ [])
    ≡ record { told = false ∷ false ∷ false ∷ false ∷ false ∷ true ∷ []; broken = record { serial = 1; position = 5 } ∷ [] }
unfolding step_result script_step
a_whole_round_tells_that_an_arm_failed = refl

-- in a round in sections the handling tells it, at whose position the source is broken
pub a_handled_event_tells_that_its_arm_failed :
    faults (step.Add ∷ poll 0 Read 1 ∷ poll 0 Write 2 ∷ step.Fault which.Arm ∷ event 0 reads ∷ step.Begin None ∷ step.Wait ∷ step.Handle ∷ step.Finish ∷ [])
    ≡ record {
      told = false ∷ false ∷ false ∷ false ∷ false ∷ false ∷ false ∷ true ∷ false ∷ [];
      broken = record { serial = 1; position = 7 } ∷ [];
    }
unfolding step_result script_step
a_handled_event_tells_that_its_arm_failed = refl
