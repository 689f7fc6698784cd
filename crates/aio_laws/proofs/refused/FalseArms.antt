-- Arms that a wrong machine leaves off, makes for nobody or forgets, and sources that it takes for broken or for whole, each refused by a law of a step.
use Rattle.std.proofs.Common.{◌≡◌, ℕ, true, false, List, [], ◌∷◌, length, None, refl, ap, sym, arith, ◌<◌}
use Rattle.aio_base.specs.declared.names.TheConstants.Interest.{WRITE}
use Rattle.aio_base.specs.declared.names.Dir.{Dir}
use Rattle.aio_base.specs.declared.names.Dir.TheVariants.{Read, Write}
use Rattle.aio_base.specs.declared.names.Event.{Event}
use Rattle.aio_base.specs.declared.outcomes.Which.TheVariants as which
use Rattle.aio_base.specs.declared.steps.Step.TheVariants as step
use Rattle.aio_base.specs.declared.steps.Answer.TheVariants as answer
use Rattle.aio_base.specs.World.{Succeeds, Gives, Fails, ArmedDirection, BrokenSource, PollWaiter, World}
use Rattle.aio_laws.specs.Calls.{ArmsAsNeeded}
use Rattle.aio_laws.specs.FailedArms.{BrokenFollows}
use Rattle.aio_laws.specs.Given.{IsGivenOnce}
use Rattle.aio_laws.specs.RoundArming.{RoundArming}
use Rattle.aio_base.proofs.Membership.{none_is_in, first_is_in, later_is_in}
use Rattle.aio_laws.proofs.refused.FalseNotes.{task, key, readable, waiting, running}

abbrev interest : ℕ → Dir → ArmedDirection
interest number dir = record { key = number; dir = dir }

abbrev waiter : ℕ → Dir → PollWaiter
waiter serial dir = record { serial = serial; dir = dir; waker = task 7 }

-- a source whose arm failed at a position
abbrev failed : ℕ → ℕ → BrokenSource
failed serial position = record { serial = serial; position = position }

apart : (m n : ℕ) → m < n → m ≡ n → ⊥
apart m n less same = absurd (omega arith)

one_failed : (a b : BrokenSource) → a ∷ [] ≡ b ∷ [] → a ≡ b
one_failed a b same = cc

-- nobody waits
abbrev quiet : World
quiet = record waiting { poll_waiters = []; marks = [] }

abbrev writable : ℕ → Event
writable number = record { key = key number; on = WRITE }

-- ## Where an arm has to be

-- the interest of a listener that was dropped stands still, and a poll, though nobody waits any longer, takes it for its own: a fault of its arm is told to nobody
pub a_poll_that_leaves_off_its_arm_is_refused :
    ArmsAsNeeded (record quiet { armed = interest 0 Read ∷ [] }) (step.Poll (key 0) Read (task 9)) answer.Pending []
    (record waiting { pos = 5; armed = interest 0 Read ∷ [] }) → ⊥
a_poll_that_leaves_off_its_arm_is_refused n = let wrong = n.polled (key 0) Read (task 9) 1 refl refl refl in cc

-- a poll of a broken source, whose direction has a waiter, does not arm it
pub a_poll_of_a_broken_source_that_leaves_off_its_arm_is_refused :
    ArmsAsNeeded (record waiting { broken = failed 1 2 ∷ [] }) (step.Poll (key 0) Read (task 7)) answer.Pending [] (record waiting { pos = 5 }) → ⊥
a_poll_of_a_broken_source_that_leaves_off_its_arm_is_refused n = let wrong = n.polled (key 0) Read (task 7) 1 refl refl refl in cc

-- a poll arms, though a task waits there already
pub an_arm_beside_a_waiter_is_refused :
    ArmsAsNeeded waiting (step.Poll (key 0) Read (task 8)) answer.Pending (which.Arm ∷ []) (record waiting { pos = 5 }) → ⊥
an_arm_beside_a_waiter_is_refused n = let wrong = n.polled (key 0) Read (task 8) 1 refl refl refl in cc

-- so does a listener's poll
pub an_arm_of_a_listener_beside_a_waiter_is_refused :
    ArmsAsNeeded (record waiting { listeners = record { number = 1; serial = 1; dir = Read; position = None; waker = None } ∷ [] })
    (step.StepEar 1 (task 8)) answer.Pending (which.Arm ∷ []) (record waiting { pos = 5 }) → ⊥
an_arm_of_a_listener_beside_a_waiter_is_refused n =
    let wrong = n.listened 1 (task 8) (record { number = 1; serial = 1; dir = Read; position = None; waker = None }) refl refl refl in cc

-- an event of a key that no source has arms
pub an_arm_of_no_source_is_refused :
    ArmsAsNeeded (running (readable 9 ∷ [])) step.Handle (answer.Handled (key 9) false) (which.Arm ∷ []) (record (running []) { pos = 5; armed = interest 1 Write ∷ [] }) → ⊥
an_arm_of_no_source_is_refused n = let wrong = n.dropped (key 9) false refl refl refl in cc

-- an event leaves its reader waiting, and its arm is left to the next event of the key that is in hand: where that one fails, nobody is told of the first
pub an_arm_left_to_the_next_event_is_refused :
    ArmsAsNeeded (running (writable 0 ∷ writable 0 ∷ [])) step.Handle (answer.Handled (key 0) false) [] (record (running (writable 0 ∷ [])) { pos = 5 }) → ⊥
an_arm_left_to_the_next_event_is_refused n = let wrong = n.handled (key 0) false 1 refl refl refl in cc

-- an event takes the last waiter of its source, and arms it all the same
pub an_arm_for_nobody_is_refused :
    ArmsAsNeeded (running (readable 0 ∷ [])) step.Handle (answer.Handled (key 0) false) (which.Arm ∷ []) (record (running []) { pos = 5; poll_waiters = [] }) → ⊥
an_arm_for_nobody_is_refused n = let wrong = n.handled (key 0) false 1 refl refl refl in cc

-- ## What a failed arm leaves

-- a poll tells that its arm failed, and its source is not broken: the next poll of the same task makes no call
pub a_failed_arm_that_breaks_nothing_is_refused :
    BrokenFollows quiet (step.Poll (key 0) Read (task 9)) (Fails ∷ []) answer.FaultArm (which.Arm ∷ []) (record waiting { pos = 5 }) → ⊥
a_failed_arm_that_breaks_nothing_is_refused b = let wrong = b.own (λ same. cc) in cc

-- the failed arm is noted for the position of an earlier one
pub a_failed_arm_noted_elsewhere_is_refused :
    BrokenFollows (record quiet { broken = failed 1 2 ∷ [] }) (step.Poll (key 0) Read (task 9)) (Fails ∷ []) answer.FaultArm (which.Arm ∷ [])
    (record waiting { pos = 5; broken = failed 1 2 ∷ [] }) → ⊥
a_failed_arm_noted_elsewhere_is_refused b =
    apart 2 4 (omega arith) (ap (λ (x : BrokenSource). x.position) (one_failed (failed 1 2) (failed 1 4) (b.own (λ same. cc))))

-- an arm of a broken source succeeds, and the source stays broken
pub a_source_that_stays_broken_is_refused :
    BrokenFollows (record waiting { broken = failed 1 2 ∷ [] }) (step.Poll (key 0) Read (task 7)) (Succeeds ∷ []) answer.Pending (which.Arm ∷ [])
    (record waiting { pos = 5; broken = failed 1 2 ∷ [] }) → ⊥
a_source_that_stays_broken_is_refused b = let wrong = b.own (λ same. cc) in cc

-- an event takes the last waiter of a broken source, and the source counts as whole, though nothing armed it
pub a_source_mended_without_an_arm_is_refused :
    BrokenFollows (record (running (readable 0 ∷ [])) { broken = failed 1 2 ∷ [] }) step.Handle [] (answer.Handled (key 0) false) []
    (record (running []) { pos = 5; poll_waiters = [] }) → ⊥
a_source_mended_without_an_arm_is_refused b = let wrong = b.own (λ same. cc) in cc

-- a source is taken out, which the poller refuses, and its failed arm stays for nobody
pub a_failed_arm_that_outlives_its_source_is_refused :
    BrokenFollows (record waiting { broken = failed 1 2 ∷ [] }) (step.Del (key 0)) (Fails ∷ []) answer.FaultRemove (which.Remove ∷ [])
    (record quiet { pos = 5; live = record { key = 1; serial = 2 } ∷ []; broken = failed 1 2 ∷ [] }) → ⊥
a_failed_arm_that_outlives_its_source_is_refused b = let wrong = b.own (λ same. cc) in cc

-- ## Whole rounds

-- a writer of each of two sources waits
abbrev writers : World
writers = record waiting { poll_waiters = waiter 1 Write ∷ waiter 2 Write ∷ [] }

-- the first arm of a whole round fails, and the second is left off
pub a_round_that_leaves_off_at_a_failed_arm_is_refused : (v : World)
    → RoundArming writers step.React (Gives (readable 0 ∷ readable 1 ∷ []) ∷ Fails ∷ []) (which.Wait ∷ which.Arm ∷ []) v → ⊥
a_round_that_leaves_off_at_a_failed_arm_is_refused v r = let wrong = r.asks refl refl in cc

-- the first arm of a whole round fails, and the source of the second is taken for broken too
pub a_source_broken_by_the_arm_of_another_is_refused :
    RoundArming writers step.React (Gives (readable 0 ∷ readable 1 ∷ []) ∷ Fails ∷ Succeeds ∷ []) (which.Wait ∷ which.Arm ∷ which.Arm ∷ [])
    (record writers { pos = 5; rounds = 1; broken = failed 1 4 ∷ failed 2 4 ∷ [] }) → ⊥
a_source_broken_by_the_arm_of_another_is_refused r =
    let told = (r.broken refl refl (failed 2 4)).0 (later_is_in (failed 1 4) (failed 2 4 ∷ []) (failed 2 4) (first_is_in (failed 2 4) [])) in
    let wrong : false ≡ true = told.0 in cc

-- the second arm fails, and the first source is taken for broken in place of the second
pub a_failed_arm_of_a_whole_round_noted_for_another_is_refused :
    RoundArming writers step.React (Gives (readable 0 ∷ readable 1 ∷ []) ∷ Succeeds ∷ Fails ∷ []) (which.Wait ∷ which.Arm ∷ which.Arm ∷ [])
    (record writers { pos = 5; rounds = 1; armed = interest 1 Write ∷ []; broken = failed 1 4 ∷ [] }) → ⊥
a_failed_arm_of_a_whole_round_noted_for_another_is_refused r =
    let told = (r.broken refl refl (failed 1 4)).0 (first_is_in (failed 1 4) []) in
    let wrong : false ≡ true = told.0 in cc

-- an arm of a broken source succeeds in a whole round of which another arm failed, and the source stays broken
pub a_source_that_a_round_leaves_broken_is_refused :
    RoundArming (record writers { broken = failed 1 2 ∷ [] }) step.React (Gives (readable 0 ∷ readable 1 ∷ []) ∷ Succeeds ∷ Fails ∷ []) (which.Wait ∷ which.Arm ∷ which.Arm ∷ [])
    (record writers { pos = 5; rounds = 1; armed = interest 0 Write ∷ []; broken = failed 1 2 ∷ failed 2 4 ∷ [] }) → ⊥
a_source_that_a_round_leaves_broken_is_refused r =
    let told = (r.broken refl refl (failed 1 2)).0 (first_is_in (failed 1 2) (failed 2 4 ∷ [])) in
    let wrong : false ≡ true = told.0 in cc

-- one event is handled, and another source, whose writer waits too, is armed in place of its own
pub a_round_that_arms_another_source_is_refused :
    RoundArming writers step.React (Gives (readable 0 ∷ []) ∷ Succeeds ∷ []) (which.Wait ∷ which.Arm ∷ [])
    (record writers { pos = 5; rounds = 1; armed = interest 1 Write ∷ [] }) → ⊥
a_round_that_arms_another_source_is_refused r = none_is_in (interest 1 Write) ((r.armed refl refl 1 Write).0 (first_is_in (interest 1 Write) [])).0

-- two events of one source leave its writer waiting, and it is armed once
pub an_arm_left_off_between_two_events_is_refused : (v : World)
    → RoundArming writers step.React (Gives (readable 0 ∷ readable 0 ∷ []) ∷ Succeeds ∷ []) (which.Wait ∷ which.Arm ∷ []) v → ⊥
an_arm_left_off_between_two_events_is_refused v r = let wrong = r.asks refl refl in cc

-- of two arms of one source the second fails, and the interest that the first one set is forgotten
pub an_interest_forgotten_at_a_later_failed_arm_is_refused :
    RoundArming writers step.React (Gives (readable 0 ∷ readable 0 ∷ []) ∷ Succeeds ∷ Fails ∷ []) (which.Wait ∷ which.Arm ∷ which.Arm ∷ [])
    (record writers { pos = 5; rounds = 1; broken = failed 1 4 ∷ [] }) → ⊥
an_interest_forgotten_at_a_later_failed_arm_is_refused r = none_is_in (interest 0 Write) ((r.armed refl refl 0 Write).1 (first_is_in Write []))

-- ## The poller in memory

abbrev first_key : List Event → ℕ
first_key [] = 0
first_key (event ∷ events) = event.key.0

-- an event that was noted once is given by two waits
pub an_event_given_twice_is_refused :
    IsGivenOnce (step.Note (readable 0) ∷ step.Begin None ∷ step.Wait ∷ step.Handle ∷ step.Wait ∷ []) (readable 0 ∷ readable 0 ∷ []) [] → ⊥
an_event_given_twice_is_refused given = apart 1 2 (omega arith) (sym (ap (λ (events : List Event). length events) given))

-- a wait that was interrupted loses the event that was noted
pub an_event_lost_at_an_interrupt_is_refused : IsGivenOnce (step.Note (readable 0) ∷ step.Interrupt ∷ step.React ∷ []) [] [] → ⊥
an_event_lost_at_an_interrupt_is_refused given = apart 0 1 (omega arith) (ap (λ (events : List Event). length events) given)

-- of two events the later is given first
pub events_given_out_of_order_are_refused : IsGivenOnce (step.Note (readable 0) ∷ step.Note (writable 1) ∷ step.React ∷ []) (writable 1 ∷ readable 0 ∷ []) [] → ⊥
events_given_out_of_order_are_refused given = apart 0 1 (omega arith) (sym (ap first_key given))
