-- Calls of wrong machines, each refused by the law of what a step calls.
use Rattle.std.proofs.Common.{true, false, [], ◌∷◌, None, refl, arith}
use Rattle.aio_base.specs.declared.names.Dir.TheVariants.{Read, Write}
use Rattle.aio_base.specs.declared.outcomes.EndWord.TheVariants.{Clean, FaultArm}
use Rattle.aio_base.specs.declared.outcomes.Which.TheVariants as which
use Rattle.aio_base.specs.declared.steps.Step.TheVariants as step
use Rattle.aio_base.specs.declared.steps.Answer.TheVariants as answer
use Rattle.aio_base.specs.World.{Succeeds, Gives, Fails, World}
use Rattle.aio_laws.specs.Calls.{CallsFollow}
use Rattle.aio_base.proofs.Membership.{first_is_in}
use Rattle.aio_laws.proofs.refused.FalseNotes.{task, key, readable, running, waiting}

-- a source is told a key, and the poller does not know of it
pub a_source_that_is_not_registered_is_refused : (v : World) → CallsFollow waiting step.Add [] (answer.KeyIs (key 2)) [] v → ⊥
a_source_that_is_not_registered_is_refused v c = let wrong = c.fit in cc

-- a poll that stays pending calls itself armed, and the poller was not told
pub an_interest_armed_without_a_call_is_refused :
    CallsFollow (record waiting { armed = [] }) (step.Poll (key 0) Read (task 7)) [] answer.Pending []
    (record waiting { pos = 5; armed = record { key = 0; dir = Read } ∷ [] }) → ⊥
an_interest_armed_without_a_call_is_refused c = let wrong = c.silent refl in cc

-- a wait gives an event and leaves its key armed, which the poller has cleared: nothing arms it again, and whoever is left there sleeps on
pub an_interest_kept_over_its_event_is_refused :
    CallsFollow (record (running []) { armed = record { key = 0; dir = Write } ∷ [] }) step.Wait (Gives (readable 0 ∷ []) ∷ []) (answer.Given 1) (which.Wait ∷ [])
    (record (running (readable 0 ∷ [])) { armed = record { key = 0; dir = Write } ∷ [] }) → ⊥
an_interest_kept_over_its_event_is_refused c = let wrong = c.cleared (readable 0) Write (first_is_in (readable 0) []) in cc

-- an arm fails, as is told, and was not called
pub a_failed_arm_without_a_call_is_refused : (v : World) → CallsFollow (running (readable 0 ∷ [])) step.Handle [] (answer.Handled (key 0) true) [] v → ⊥
a_failed_arm_without_a_call_is_refused v c = let wrong = c.fit in cc

-- a `begin` waits
pub a_begin_that_waits_is_refused : (v : World) → CallsFollow waiting (step.Begin None) [] (answer.Begin 1 None) (which.Wait ∷ []) v → ⊥
a_begin_that_waits_is_refused v c = let wrong = c.fit in cc

-- an arm of a poll fails, and the poll tells `pending`, as if it were armed: its task is told of no fault, and no event comes
pub a_failed_arm_that_is_not_told_is_refused :
    CallsFollow (record waiting { armed = [] }) (step.Poll (key 0) Read (task 7)) (Fails ∷ []) answer.Pending (which.Arm ∷ [])
    (record waiting { pos = 5; armed = record { key = 0; dir = Read } ∷ [] }) → ⊥
a_failed_arm_that_is_not_told_is_refused c = let wrong = c.heard (λ same. cc) in cc

-- an arm of a `handle` fails, and nothing of it is told
pub a_failed_arm_of_an_event_that_is_not_told_is_refused :
    (v : World) → CallsFollow (running (readable 0 ∷ [])) step.Handle (Fails ∷ []) (answer.Handled (key 0) false) (which.Arm ∷ []) v → ⊥
a_failed_arm_of_an_event_that_is_not_told_is_refused v c = let wrong = c.heard (λ same. cc) in cc

-- an `add` fails and tells a key
pub a_key_of_a_failed_add_is_refused : (v : World) → CallsFollow waiting step.Add (Fails ∷ []) (answer.KeyIs (key 2)) (which.Add ∷ []) v → ⊥
a_key_of_a_failed_add_is_refused v c = let wrong = c.heard (λ same. cc) in cc

-- a `del` tells that its source is gone, and the poller still has it
pub a_failed_remove_that_is_not_told_is_refused : (v : World) → CallsFollow waiting (step.Del (key 1)) (Fails ∷ []) answer.Gone (which.Remove ∷ []) v → ⊥
a_failed_remove_that_is_not_told_is_refused v c = let wrong = c.heard (λ same. cc) in cc

-- a wait fails and is told as one that gave no event
pub a_failed_wait_that_is_not_told_is_refused : (v : World) → CallsFollow (running []) step.Wait (Fails ∷ []) (answer.Given 0) (which.Wait ∷ []) v → ⊥
a_failed_wait_that_is_not_told_is_refused v c = let wrong = c.heard (λ same. cc) in cc

-- a fault is told of an arm that succeeded
pub a_fault_of_no_failure_is_refused :
    (v : World) → CallsFollow waiting (step.Poll (key 0) Read (task 7)) (Succeeds ∷ []) answer.FaultArm (which.Arm ∷ []) v → ⊥
a_fault_of_no_failure_is_refused v c = let wrong = c.heard (λ same. cc) in cc

-- an arm fails, as is told, and the interest that stood is forgotten
pub an_interest_lost_in_a_failed_arm_is_refused :
    CallsFollow (record waiting { armed = record { key = 0; dir = Read } ∷ [] }) (step.Poll (key 0) Write (task 8)) (Fails ∷ []) answer.FaultArm (which.Arm ∷ [])
    (record waiting { pos = 5; armed = [] }) → ⊥
an_interest_lost_in_a_failed_arm_is_refused c = let wrong = c.stays (λ same. cc) refl in cc

-- an arm of a whole round fails, and the round tells that it ended clean: a waiter is left that no event wakes, and nobody was told
pub a_failed_arm_of_a_whole_round_that_is_not_told_is_refused :
    (v : World) → CallsFollow waiting step.React (Gives (readable 0 ∷ []) ∷ Fails ∷ []) (answer.Round 1 1 Clean) (which.Wait ∷ which.Arm ∷ []) v → ⊥
a_failed_arm_of_a_whole_round_that_is_not_told_is_refused v c = let wrong = c.ended.0 in cc

-- the second arm of a whole round fails, and the round tells of the first one alone
pub a_failed_later_arm_that_is_not_told_is_refused :
    (v : World)
    → CallsFollow waiting step.React (Gives (readable 0 ∷ readable 1 ∷ []) ∷ Succeeds ∷ Fails ∷ []) (answer.Round 1 2 Clean) (which.Wait ∷ which.Arm ∷ which.Arm ∷ []) v
    → ⊥
a_failed_later_arm_that_is_not_told_is_refused v c = let wrong = c.ended.0 in cc

-- a whole round whose arm succeeded tells that an arm failed
pub a_fault_of_an_arm_that_succeeded_is_refused :
    (v : World) → CallsFollow waiting step.React (Gives (readable 0 ∷ []) ∷ Succeeds ∷ []) (answer.Round 1 1 FaultArm) (which.Wait ∷ which.Arm ∷ []) v → ⊥
a_fault_of_an_arm_that_succeeded_is_refused v c = let wrong = c.ended.0 in cc

-- a whole round whose wait gave one event arms twice
pub an_arm_without_an_event_is_refused :
    (v : World)
    → CallsFollow waiting step.React (Gives (readable 0 ∷ []) ∷ Succeeds ∷ Succeeds ∷ []) (answer.Round 1 1 Clean) (which.Wait ∷ which.Arm ∷ which.Arm ∷ []) v → ⊥
an_arm_without_an_event_is_refused v c = let few = c.ended.1 in omega arith

-- a whole round remembers its event's key as armed for the waiter that is left, and the poller was not told
pub an_interest_armed_in_a_whole_round_without_a_call_is_refused :
    CallsFollow (record waiting { armed = [] }) step.React (Gives (readable 0 ∷ []) ∷ []) (answer.Round 1 1 Clean) (which.Wait ∷ [])
    (record waiting { pos = 5; armed = record { key = 0; dir = Write } ∷ [] }) → ⊥
an_interest_armed_in_a_whole_round_without_a_call_is_refused c = let wrong = c.unarmed refl in cc
