-- Notes, marks and failed arms of wrong machines, each refused by a law of a step.
use Rattle.std.proofs.Common.{◌≡◌, ℕ, ◌<◌, true, false, List, [], ◌∷◌, length, None, Some, ap, sym, arith}
use Rattle.aio_base.specs.declared.names.TheConstants.Interest.{READ, READ_WRITE}
use Rattle.aio_base.specs.declared.names.Key.{Key}
use Rattle.aio_base.specs.declared.names.Waker.{Waker}
use Rattle.aio_base.specs.declared.names.Dir.{Dir}
use Rattle.aio_base.specs.declared.names.Dir.TheVariants.{Read, Write}
use Rattle.aio_base.specs.declared.names.Event.{Event}
use Rattle.aio_base.specs.declared.steps.Step.TheVariants as step
use Rattle.aio_base.specs.declared.steps.Answer.TheVariants as answer
use Rattle.aio_base.specs.declared.outcomes.EndWord.TheVariants.{Clean}
use Rattle.aio_base.specs.World.{PollerAnswer, Gives, Mark, BrokenSource, HandledDirection, RoundState, World, opening}
use Rattle.aio_laws.specs.Handling.{HandledIsNoted}
use Rattle.aio_laws.specs.Marks.{MarksFollow}
use Rattle.aio_laws.specs.Others.{OthersStand}

-- a round that began at this position, with these events in hand
abbrev pub round : ℕ → List Event → RoundState
round begin hand = record { number = 1; begin = begin; limit = None; in_hand = hand; taken = []; last_wait = None; fault = Clean }

abbrev pub task : ℕ → Waker
task number = record { 0 = number }

abbrev pub key : ℕ → Key
key number = record { 0 = number }

-- an event of a key: it is readable, or readable and writable
abbrev pub readable : ℕ → Event
readable number = record { key = key number; on = READ }

abbrev both : ℕ → Event
both number = record { key = key number; on = READ_WRITE }

abbrev pub mark : ℕ → Dir → ℕ → Mark
mark serial dir position = record { serial = serial; dir = dir; position = position }

abbrev pub entry : ℕ → Dir → ℕ → HandledDirection
entry serial dir begin = record { serial = serial; dir = dir; begin = begin }

-- two live sources; the reader of the first waits since position 1
abbrev pub waiting : World
waiting = record opening {
  pos = 4;
  live = record { key = 0; serial = 1 } ∷ record { key = 1; serial = 2 } ∷ [];
  serials = 2;
  poll_waiters = record { serial = 1; dir = Read; waker = task 7 } ∷ [];
  marks = mark 1 Read 1 ∷ [];
}

-- and a round runs that began at position 2, with these events in hand
abbrev pub running : List Event → World
running hand = record waiting { round = Some (round 2 hand) }

-- the world after an event was handled, with this past
abbrev after : List HandledDirection → World
after past = record waiting { pos = 5; poll_waiters = []; round = Some (record (round 2 []) { taken = task 7 ∷ [] }); handled = past }

apart : (m n : ℕ) → m < n → m ≡ n → ⊥
apart m n less same = absurd (omega arith)

-- ## Notes

none_noted : (h : HandledDirection) (past : List HandledDirection) → [] ≡ h ∷ past → ⊥
none_noted h past same = cc

some_noted : (h : HandledDirection) (past : List HandledDirection) → h ∷ past ≡ [] → ⊥
some_noted h past same = cc

two_noted : (a b c : HandledDirection) (past : List HandledDirection) → a ∷ b ∷ past ≡ c ∷ [] → ⊥
two_noted a b c past same = let long = ap length same in absurd (omega arith)

one_noted : (a b : HandledDirection) → a ∷ [] ≡ b ∷ [] → a ≡ b
one_noted a b same = cc

-- a handled event takes its waiter, and is not noted: the task that it wakes stays pending at its next poll
pub an_event_that_is_not_noted_is_refused : (answers : List PollerAnswer) → HandledIsNoted (running (readable 0 ∷ [])) step.Handle answers (after []) → ⊥
an_event_that_is_not_noted_is_refused answers h = none_noted (entry 1 Read 2) [] h.handled

-- so does an event of a whole round
pub an_event_of_a_whole_round_that_is_not_noted_is_refused :
    HandledIsNoted waiting step.React (Gives (readable 0 ∷ []) ∷ []) (record waiting { pos = 5; poll_waiters = []; rounds = 1; begun = 4 ∷ [] }) → ⊥
an_event_of_a_whole_round_that_is_not_noted_is_refused h = none_noted (entry 1 Read 4) [] h.handled

-- a read is noted for the writer too
pub a_direction_noted_that_the_event_does_not_have_is_refused : (answers : List PollerAnswer)
    → HandledIsNoted (running (readable 0 ∷ [])) step.Handle answers (after (entry 1 Write 2 ∷ entry 1 Read 2 ∷ [])) → ⊥
a_direction_noted_that_the_event_does_not_have_is_refused answers h = two_noted (entry 1 Write 2) (entry 1 Read 2) (entry 1 Read 2) [] h.handled

-- of an event of reading and writing one alone is noted
pub a_direction_that_is_not_noted_is_refused : (answers : List PollerAnswer)
    → HandledIsNoted (running (both 0 ∷ [])) step.Handle answers (after (entry 1 Read 2 ∷ [])) → ⊥
a_direction_that_is_not_noted_is_refused answers h = two_noted (entry 1 Write 2) (entry 1 Read 2) (entry 1 Read 2) [] (sym h.handled)

-- an event is noted twice
pub an_event_noted_twice_is_refused : (answers : List PollerAnswer)
    → HandledIsNoted (running (readable 0 ∷ [])) step.Handle answers (after (entry 1 Read 2 ∷ entry 1 Read 2 ∷ [])) → ⊥
an_event_noted_twice_is_refused answers h = two_noted (entry 1 Read 2) (entry 1 Read 2) (entry 1 Read 2) [] h.handled

-- an event is noted with the position of its `handle` in place of the begin of its round: whoever was stored while the round ran is told ready
pub a_begin_above_that_of_the_round_is_refused : (answers : List PollerAnswer)
    → HandledIsNoted (running (readable 0 ∷ [])) step.Handle answers (after (entry 1 Read 4 ∷ [])) → ⊥
a_begin_above_that_of_the_round_is_refused answers h =
    apart 2 4 (omega arith) (sym (ap (λ (e : HandledDirection). e.begin) (one_noted (entry 1 Read 4) (entry 1 Read 2) h.handled)))

-- an event of a key that no source has is noted, for a source that was taken out
pub a_dead_serial_that_is_noted_is_refused : (answers : List PollerAnswer)
    → HandledIsNoted (running (readable 5 ∷ [])) step.Handle answers (record (running []) { pos = 5; handled = entry 9 Read 2 ∷ [] }) → ⊥
a_dead_serial_that_is_noted_is_refused answers h = some_noted (entry 9 Read 2) [] h.handled

-- the event of one source is noted for another
pub an_event_noted_for_another_source_is_refused : (answers : List PollerAnswer)
    → HandledIsNoted (running (readable 0 ∷ [])) step.Handle answers (after (entry 2 Read 2 ∷ [])) → ⊥
an_event_noted_for_another_source_is_refused answers h =
    apart 1 2 (omega arith) (sym (ap (λ (e : HandledDirection). e.serial) (one_noted (entry 2 Read 2) (entry 1 Read 2) h.handled)))

-- a `handle` with nothing in hand, which is told `empty`, notes an event
pub an_event_noted_with_nothing_in_hand_is_refused : (answers : List PollerAnswer)
    → HandledIsNoted (running []) step.Handle answers (record (running []) { pos = 5; handled = entry 1 Read 2 ∷ [] }) → ⊥
an_event_noted_with_nothing_in_hand_is_refused answers h = some_noted (entry 1 Read 2) [] h.handled

-- a wait notes an event that no step has handled
pub an_event_noted_by_a_wait_is_refused : (answers : List PollerAnswer)
    → HandledIsNoted (running []) step.Wait answers (record (running []) { pos = 5; handled = entry 1 Read 2 ∷ [] }) → ⊥
an_event_noted_by_a_wait_is_refused answers h = some_noted (entry 1 Read 2) [] h.handled

-- the end of a round forgets the past
pub a_past_that_is_forgotten_is_refused : (answers : List PollerAnswer)
    → HandledIsNoted (record (running []) { handled = entry 1 Read 2 ∷ [] }) step.Finish answers (record waiting { pos = 5 }) → ⊥
a_past_that_is_forgotten_is_refused answers h = none_noted (entry 1 Read 2) [] h.handled

-- ## Marks

one_mark : (a b : Mark) → a ∷ [] ≡ b ∷ [] → a ≡ b
one_mark a b same = cc

-- a poll of the second source drops the mark of the first: its reader is woken and never told ready
pub a_mark_of_another_source_that_is_lost_is_refused : (answers : List PollerAnswer)
    → OthersStand waiting (step.Poll (key 1) Read (task 8)) answers (record waiting { pos = 5; marks = mark 2 Read 4 ∷ [] }) → ⊥
a_mark_of_another_source_that_is_lost_is_refused answers o = let same : [] ≡ mark 1 Read 1 ∷ [] = o.marks in cc

-- a poll for writing moves the mark of the reader
pub a_mark_of_the_other_direction_that_moves_is_refused : (answers : List PollerAnswer)
    → OthersStand waiting (step.Poll (key 0) Write (task 8)) answers (record waiting { pos = 5; marks = mark 1 Read 4 ∷ mark 1 Write 4 ∷ [] }) → ⊥
a_mark_of_the_other_direction_that_moves_is_refused answers o =
    apart 1 4 (omega arith) (sym (ap (λ (m : Mark). m.position) (one_mark (mark 1 Read 4) (mark 1 Read 1) o.marks)))

-- a round drops the mark of the event that it handles
pub a_mark_lost_by_a_round_is_refused : (answers : List PollerAnswer)
    → OthersStand (running (readable 0 ∷ [])) step.Handle answers (record (after (entry 1 Read 2 ∷ [])) { marks = [] }) → ⊥
a_mark_lost_by_a_round_is_refused answers o = let same : [] ≡ mark 1 Read 1 ∷ [] = o.marks in cc

-- a poll that is ready leaves its mark, so that the next one is ready again
pub a_mark_that_is_not_used_up_is_refused : MarksFollow waiting (step.Poll (key 0) Read (task 7)) answer.Ready (record waiting { pos = 5 }) → ⊥
a_mark_that_is_not_used_up_is_refused m = let same : mark 1 Read 1 ∷ [] ≡ [] = m.own in cc

-- a poll stores another waker and leaves the mark of the one before it
pub a_mark_of_an_earlier_storing_is_refused :
    MarksFollow waiting (step.Poll (key 0) Read (task 8)) answer.Pending
    (record waiting { pos = 5; poll_waiters = record { serial = 1; dir = Read; waker = task 8 } ∷ [] }) → ⊥
a_mark_of_an_earlier_storing_is_refused m =
    apart 1 4 (omega arith) (ap (λ (x : Mark). x.position) (one_mark (mark 1 Read 1) (mark 1 Read 4) m.own))

-- a poll with the waker that is stored moves its mark, past an event that was handled meanwhile
pub a_mark_moved_by_the_same_waker_is_refused :
    MarksFollow waiting (step.Poll (key 0) Read (task 7)) answer.Pending (record waiting { pos = 5; marks = mark 1 Read 4 ∷ [] }) → ⊥
a_mark_moved_by_the_same_waker_is_refused m =
    apart 1 4 (omega arith) (sym (ap (λ (x : Mark). x.position) (one_mark (mark 1 Read 4) (mark 1 Read 1) m.own)))

-- a source is taken out, and its mark stays
pub a_mark_that_outlives_its_source_is_refused :
    MarksFollow waiting (step.Del (key 0)) answer.Gone (record waiting { pos = 5; live = record { key = 1; serial = 2 } ∷ []; poll_waiters = [] }) → ⊥
a_mark_that_outlives_its_source_is_refused m = let same : mark 1 Read 1 ∷ [] ≡ [] = m.own in cc

-- ## Failed arms

abbrev failed : ℕ → BrokenSource
failed serial = record { serial = serial; position = 3 }

-- a poll of the second source takes the first for armed, whose arm had failed
pub a_failed_arm_of_another_that_is_forgotten_is_refused : (answers : List PollerAnswer)
    → OthersStand (record waiting { broken = failed 1 ∷ [] }) (step.Poll (key 1) Read (task 8)) answers
    (record waiting { pos = 5; marks = mark 1 Read 1 ∷ mark 2 Read 4 ∷ []; broken = [] }) → ⊥
a_failed_arm_of_another_that_is_forgotten_is_refused answers o = let same : [] ≡ failed 1 ∷ [] = o.broken in cc

-- an event of the first source, whose arm fails, leaves the second one broken
pub a_failed_arm_noted_for_another_is_refused : (answers : List PollerAnswer)
    → OthersStand (running (readable 0 ∷ [])) step.Handle answers (record (after (entry 1 Read 2 ∷ [])) { broken = failed 2 ∷ [] }) → ⊥
a_failed_arm_noted_for_another_is_refused answers o = let same : failed 2 ∷ [] ≡ [] = o.broken in cc
