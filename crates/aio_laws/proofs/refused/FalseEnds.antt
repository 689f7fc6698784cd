-- A round that was stopped and goes on, computed, and ends of rounds that go on wrongly, each refused by the law of stopped rounds.
use Rattle.std.proofs.Common.{◌≡◌, true, false, List, [], ◌∷◌, ◌++◌, map, None, Some, option_map, refl, ap, sym, ◌∙◌}
use Rattle.std.proofs.lemmas.List.Elements.{All-nil, All-cons, All-head, All-tail}
use Rattle.aio_base.specs.declared.names.TheConstants.Interest.{READ, WRITE}
use Rattle.aio_base.specs.declared.names.Event.{Event}
use Rattle.aio_base.specs.declared.names.Dir.TheVariants.{Read, Write}
use Rattle.aio_base.specs.declared.outcomes.EndWord.TheVariants.{Clean, FaultArm}
use Rattle.aio_base.specs.declared.steps.Answer.TheVariants as answer
use Rattle.aio_base.specs.declared.steps.Step.TheVariants as step
use Rattle.aio_base.specs.World.{PollerAnswer, Gives, Fails, PollWaiter, HandledDirection, RoundState, World, opening}
use Rattle.aio_base.specs.Machine.{Outcome, react, step_result}
use Rattle.aio_base.specs.Runs.{PolledStep, outcome_of, outcomes_of, world_of}
use Rattle.aio_laws.specs.Resuming.{begin_and_wait, finish, IsHandling, EndsAsWhole, GoesOn}
use Rattle.aio_laws.proofs.traces.Words.{waker}

-- ## A round, stopped after its first event

abbrev reads : Event
reads = record { key = record { 0 = 0 }; on = READ }

abbrev writes : Event
writes = record { key = record { 0 = 0 }; on = WRITE }

-- a timer is due, and these tasks wait for the one source
abbrev waits : List PollWaiter → World
waits waiters = record opening {
  now = 10;
  pos = 4;
  live = record { key = 0; serial = 1 } ∷ [];
  serials = 1;
  poll_waiters = waiters;
  registrations = record { id = 1; deadline = 10; waker = waker 9 } ∷ [];
  ids_drawn = 1;
}

abbrev reader : PollWaiter
reader = record { serial = 1; dir = Read; waker = waker 7 }

abbrev writer : PollWaiter
writer = record { serial = 1; dir = Write; waker = waker 8 }

-- one task for each direction
abbrev both : World
both = waits (reader ∷ writer ∷ [])

abbrev told : PollerAnswer
told = Gives (reads ∷ writes ∷ [])

abbrev handle : List PollerAnswer → PolledStep
handle answers = record { step = step.Handle; answers = answers }

-- the arm behind the first event fails, and the second needs none
abbrev done : List PolledStep
done = handle (Fails ∷ []) ∷ []

abbrev rest : List PolledStep
rest = handle [] ∷ []

-- the world in which the round was stopped, and that in which no event is left
abbrev stopped : World
stopped = world_of both (begin_and_wait None told ++ done)

abbrev handled : World
handled = world_of stopped rest

abbrev sections : List Outcome
sections = outcomes_of both (begin_and_wait None told ++ done ++ rest)

abbrev whole : Outcome
whole = react both None (told ∷ Fails ∷ [])

-- the law speaks of such a round
pub a_round_goes_on : GoesOn both None told done rest
unfolding step_result
a_round_goes_on = record {
  idle = refl;
  done_handle = All-cons IsHandling (handle (Fails ∷ [])) [] refl (All-nil IsHandling);
  rest_handle = All-cons IsHandling (handle []) [] refl (All-nil IsHandling);
  before = (refl, (refl, (refl, tt)));
  after = (refl, tt);
  empty = refl;
}

-- the timer's task is woken and then those of both events, at the end, which tells the failed arm; and both events are noted
pub all_are_woken_at_the_end : (outcome_of handled finish).wakes ≡ waker 9 ∷ waker 7 ∷ waker 8 ∷ []
unfolding step_result
all_are_woken_at_the_end = refl

pub a_failed_arm_is_told_at_the_end : (outcome_of handled finish).answer ≡ answer.End FaultArm
unfolding step_result
a_failed_arm_is_told_at_the_end = refl

pub both_events_are_noted : map (λ (h : HandledDirection). h.dir) (outcome_of handled finish).world.handled ≡ Read ∷ Write ∷ []
unfolding step_result
both_events_are_noted = refl

-- ## Rounds that go on wrongly

-- the hand is lost where the round is stopped
abbrev emptied : World → World
emptied w = record w { round = option_map (λ (round : RoundState). let r : RoundState = record round { in_hand = [] } in r) w.round }

-- so the task of the second event is not woken
pub a_dropped_event_is_refused : EndsAsWhole whole (outcomes_of both (begin_and_wait None told ++ done)) (outcome_of (emptied stopped) finish) → ⊥
unfolding step_result
a_dropped_event_is_refused e = let wakes : waker 9 ∷ waker 7 ∷ [] ≡ waker 9 ∷ waker 7 ∷ waker 8 ∷ [] = e.wakes in cc

-- nobody waits for what is dropped, and so the same tasks are woken
abbrev one : World
one = waits (reader ∷ [])

pub a_dropped_event_that_nobody_waits_for_is_refused :
    EndsAsWhole (react one None (told ∷ [])) (outcomes_of one (begin_and_wait None told ++ rest))
    (outcome_of (emptied (world_of one (begin_and_wait None told ++ rest))) finish) → ⊥
unfolding step_result
a_dropped_event_that_nobody_waits_for_is_refused e =
    let noted : Read ∷ [] ≡ Read ∷ Write ∷ [] = ap (λ (w : World). map (λ (h : HandledDirection). h.dir) w.handled) e.world.all in cc

-- a task is woken twice at the end
pub a_waker_that_is_woken_twice_is_refused :
    EndsAsWhole whole sections (record (outcome_of handled finish) { wakes = waker 9 ∷ waker 7 ∷ waker 8 ∷ waker 8 ∷ [] }) → ⊥
unfolding step_result
a_waker_that_is_woken_twice_is_refused e =
    let wakes : waker 9 ∷ waker 7 ∷ waker 8 ∷ waker 8 ∷ [] ≡ waker 9 ∷ waker 7 ∷ waker 8 ∷ [] = e.wakes in cc

-- the handling of the first event wakes its task, which is woken at the end too
pub a_waker_that_is_woken_before_the_end_is_refused : (first second third fourth : Outcome) → third.wakes ≡ waker 7 ∷ []
    → EndsAsWhole whole (first ∷ second ∷ third ∷ fourth ∷ []) (outcome_of handled finish) → ⊥
a_waker_that_is_woken_before_the_end_is_refused first second third fourth woken e =
    let Silent : Outcome → Type 0 = λ o. o.wakes ≡ [] in
    let later = All-tail Silent second (third ∷ fourth ∷ []) (All-tail Silent first (second ∷ third ∷ fourth ∷ []) e.silent) in
    let none = All-head Silent third (fourth ∷ []) later in
    let same : waker 7 ∷ [] ≡ [] = sym woken ∙ none in
    cc

-- the fault that the round kept when it was stopped is forgotten
pub a_fault_that_is_forgotten_is_refused : EndsAsWhole whole sections (record (outcome_of handled finish) { answer = answer.End Clean }) → ⊥
unfolding step_result
a_fault_that_is_forgotten_is_refused e = let fault : Some Clean ≡ Some FaultArm = e.fault in cc

-- an event is handled a second time where the round goes on
pub an_event_that_is_handled_twice_is_refused :
    EndsAsWhole whole sections
    (record (outcome_of handled finish) {
      world = record (outcome_of handled finish).world { handled = stopped.handled ++ stopped.handled ++ record { serial = 1; dir = Write; begin = 4 } ∷ [] };
    }) → ⊥
unfolding step_result
an_event_that_is_handled_twice_is_refused e =
    let noted : Read ∷ Read ∷ Write ∷ [] ≡ Read ∷ Write ∷ [] = ap (λ (w : World). map (λ (h : HandledDirection). h.dir) w.handled) e.world.all in cc
