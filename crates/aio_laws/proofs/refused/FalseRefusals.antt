-- Answers that do not fit their step, each refused by the law of what a step is told: of what is not there and is told as if it were, of what is
-- there and is told as if it were not, and of what is noted.
use Rattle.std.proofs.Common.{[], ◌∷◌, None, Some, refl, arith}
use Rattle.aio_base.specs.declared.names.Dir.TheVariants.{Read}
use Rattle.aio_base.specs.declared.steps.Step.TheVariants as step
use Rattle.aio_base.specs.declared.steps.Answer.TheVariants as answer
use Rattle.aio_base.specs.World.{World, opening}
use Rattle.aio_laws.specs.Answers.{FitsTheStep}
use Rattle.aio_laws.proofs.refused.FalseNotes.{task, key, readable, waiting}

-- a poll of a key that no source has is told to wait: nothing is stored, and nobody wakes its task
pub a_poll_of_no_source_that_waits_is_refused : FitsTheStep opening (step.Poll (key 0) Read (task 7)) answer.Pending → ⊥
a_poll_of_no_source_that_waits_is_refused f = let wrong = f.lacks refl in cc

-- a poll of a timer that is not there is told to wait
pub a_tick_of_no_timer_that_waits_is_refused : FitsTheStep opening (step.Tick 1 (task 7)) answer.Pending → ⊥
a_tick_of_no_timer_that_waits_is_refused f = let wrong = f.lacks refl in cc

-- a timer that is not there is told set
pub a_set_of_no_timer_is_refused : FitsTheStep opening (step.SetAt 1 9) answer.Set → ⊥
a_set_of_no_timer_is_refused f = let wrong = f.lacks refl in cc

-- a listener is told of a key that no source has
pub a_listener_of_no_source_is_refused : FitsTheStep opening (step.New (key 0) Read) (answer.Listener 1) → ⊥
a_listener_of_no_source_is_refused f = let wrong = f.lacks refl in cc

-- a source that lives is told gone from a poll with the waker that waits there
pub a_poll_told_no_source_of_a_live_one_is_refused : FitsTheStep waiting (step.Poll (key 0) Read (task 7)) answer.NoSource → ⊥
a_poll_told_no_source_of_a_live_one_is_refused f = let wrong = f.has (λ none. cc) in cc

abbrev listening : World
listening = record waiting { listeners = record { number = 1; serial = 1; dir = Read; position = None; waker = None } ∷ []; listeners_drawn = 1 }

-- a listener that is there is told that it is not: its waker is not stored
pub a_listener_told_that_it_is_not_there_is_refused : FitsTheStep listening (step.StepEar 1 (task 7)) answer.NoListener → ⊥
a_listener_told_that_it_is_not_there_is_refused f = let wrong = f.has (λ none. cc) in cc

-- a source that a listener uses is taken out: its listener waits for no live source
pub a_source_in_use_told_gone_is_refused : FitsTheStep listening (step.Del (key 0)) answer.Gone → ⊥
a_source_in_use_told_gone_is_refused f = let wrong = (f.has (λ none. cc)).lacks (1, refl, refl) in cc

abbrev timed : World
timed = record opening { timers = record { number = 1; deadline = Some 5; period = None; id = None; kept = None } ∷ []; timers_made = 1 }

-- a timer that is there is told that it is not: nothing is registered
pub a_timer_told_that_it_is_not_there_is_refused : FitsTheStep timed (step.Tick 1 (task 7)) answer.NoTimer → ⊥
a_timer_told_that_it_is_not_there_is_refused f = let wrong = f.has (λ none. cc) in cc

-- an event is told that a round runs, and is lost
pub an_event_told_locked_is_refused : FitsTheStep opening (step.Note (readable 0)) answer.Locked → ⊥
an_event_told_locked_is_refused f = cc

-- an `add` is told that there is no room, with two sources
pub an_add_told_full_with_room_is_refused : FitsTheStep waiting step.Add answer.Full → ⊥
an_add_told_full_with_room_is_refused f = let wrong = f.has (λ full. absurd (omega (arith, full))) in cc
