-- The machine's step reads nothing of what is noted and due: from the world with other notes it gives the same, with those notes.
use Rattle.std.proofs.Common.{◌≡◌, ℕ, Bool, true, false, cond, ◌||◌, ◌==◌, List, [], ◌∷◌, ◌++◌, length, find, Option, None, Some, is_some, unwrap_or, option_to_list, refl, ap, ◌∙◌, sym}
use Rattle.std.specs.List.{list_any}
use Rattle.std.specs.Prelude.{nat_lt, nat_le, not, filter, ◌+◌}
use Rattle.aio_base.specs.declared.names.Key.{Key}
use Rattle.aio_base.specs.declared.names.Waker.{Waker}
use Rattle.aio_base.specs.declared.names.Dir.{Dir}
use Rattle.aio_base.specs.declared.names.Event.{Event}
use Rattle.aio_base.specs.declared.outcomes.EndWord.TheVariants.{FaultArm}
use Rattle.aio_base.specs.declared.outcomes.Which.TheVariants as which
use Rattle.aio_base.specs.declared.steps.Step.{Step}
use Rattle.aio_base.specs.declared.steps.Step.TheVariants as step
use Rattle.aio_base.specs.declared.steps.Answer.{Answer}
use Rattle.aio_base.specs.declared.steps.Answer.TheVariants as answer
use Rattle.aio_base.specs.declared.outcomes.DueFaults.{DueFaults}
use Rattle.aio_base.specs.World.{PollerAnswer, Succeeds, ListenerEntry, TimerEntry, RoundState, World, nothing_due, directions_of, serial_of, key_of, poll_waiter, mark_of, waiters_of, is_empty_list, is_idle, is_broken, wanted, set_armed}
use Rattle.aio_base.specs.Machine.{Outcome, quiet, source_limit, free_key, with_waiter, with_listening, is_fresh_since, fails, next_answer, later_answers, broken_world, armed_world, after_arm, pending, add, del_source, poll_source, new_listener, is_listener, step_listener, drop_listener, is_timer, is_waker, unregistered, tick_timer, set_timer, end_timer, set_clock, begin_round, wait_answered, wait_in, wait_round, without_waiters, world_taken, wakers_taken, rearmed, handle_source, handle_first, handle_in, handle_round, finish_in, finish_round, handle_each, hand_of, fault_of_round, first_fault, react, case_of, moved_on, step_result, left_as, state_of, tick_answer, worked}
use Rattle.aio_base.specs.TimerWork.{TimerState, joining, tick_work, reset_work}
use Rattle.aio_base.specs.Runs.{without_notes, outcome_without_notes}

-- the world with these notes
abbrev noting : List Event → DueFaults → World → World
noting n d w = record w { noted = n; due = d }

abbrev noting_in : List Event → DueFaults → Outcome → Outcome
noting_in n d o = record o { world = noting n d o.world }

-- the second outcome is the first with these notes
record Noted (n : List Event) (d : DueFaults) (o p : Outcome) : Type 0 where
  is : p ≡ noting_in n d o

-- ## Either of two

either_world : (n : List Event) (d : DueFaults) (test : Bool) (u v u' v' : World) → u' ≡ noting n d u → v' ≡ noting n d v
    → cond test u' v' ≡ noting n d (cond test u v)
either_world n d true u v u' v' first second = first
either_world n d false u v u' v' first second = second

either : (n : List Event) (d : DueFaults) (test : Bool) (x y x' y' : Outcome) → Noted n d x x' → Noted n d y y' → Noted n d (cond test x y) (cond test x' y')
either n d true x y x' y' first second = first
either n d false x y x' y' first second = second

-- an outcome in a world
with_world : (n : List Event) (d : DueFaults) (o : Outcome) (u v : World) → v ≡ noting n d u → Noted n d (record o { world = u }) (record o { world = v })
with_world n d o u v same = record { is = ap (λ (w : World). let p : Outcome = record o { world = w } in p) same }

silent : (n : List Event) (d : DueFaults) (w v : World) (a : Answer) (answers : List PollerAnswer) → v ≡ noting n d w
    → Noted n d (record { answer = a; wakes = []; world = w; calls = []; left = answers }) (record { answer = a; wakes = []; world = v; calls = []; left = answers })
silent n d w v a answers same = with_world n d (record { answer = a; wakes = []; world = w; calls = []; left = answers }) w v same

-- ## Sources

arm_noted : (n : List Event) (d : DueFaults) (w : World) (key serial : ℕ) (told : PollerAnswer)
    → after_arm (noting n d w) key serial told ≡ noting n d (after_arm w key serial told)
arm_noted n d w key serial told = either_world n d (fails told) (broken_world w serial) (armed_world w key serial) _ _ refl refl

pending_noted : (n : List Event) (d : DueFaults) (arms : Bool) (w : World) (key serial : ℕ) (wakes : List Waker) (answers : List PollerAnswer)
    → Noted n d (pending arms w key serial wakes answers) (pending arms (noting n d w) key serial wakes answers)
pending_noted n d false w key serial wakes answers = record { is = refl }
pending_noted n d true w key serial wakes answers =
    with_world n d (pending true w key serial wakes answers) _ _ (arm_noted n d w key serial (next_answer answers))

add_noted : (n : List Event) (d : DueFaults) (w : World) (answers : List PollerAnswer) → Noted n d (add w answers) (add (noting n d w) answers)
add_noted n d w answers =
    let key = free_key w.live in
    let failed = fails (next_answer answers) in
    let more : World = record w { live = w.live ++ record { key = key; serial = w.serials + 1 } ∷ []; serials = w.serials + 1; armed = set_armed w.armed key [] } in
    let made : World → Outcome =
    λ (v : World). record {
      answer = cond failed answer.FaultAdd (answer.KeyIs (record { 0 = key }));
      wakes = [];
      world = v;
      calls = which.Add ∷ [];
      left = later_answers answers;
    } in
    either n d (nat_le source_limit (length w.live)) (quiet answer.Full w answers) (made (cond failed w more)) _ _ (record { is = refl })
    (record { is = ap made (either_world n d failed w more (noting n d w) (noting n d more) refl refl) })

del_noted : (n : List Event) (d : DueFaults) (w : World) (key : ℕ) (serial : Option ℕ) (answers : List PollerAnswer)
    → Noted n d (del_source w key serial answers) (del_source (noting n d w) key serial answers)
del_noted n d w key None answers = record { is = refl }
del_noted n d w key (Some serial) answers =
    either n d (list_any (λ (l : ListenerEntry). l.serial == serial) w.listeners) _ _ _ _ (record { is = refl }) (record { is = refl })

poll_noted : (n : List Event) (d : DueFaults) (w : World) (key : ℕ) (dir : Dir) (waker : Waker) (serial : Option ℕ) (answers : List PollerAnswer)
    → Noted n d (poll_source w key dir waker serial answers) (poll_source (noting n d w) key dir waker serial answers)
poll_noted n d w key dir waker None answers = record { is = refl }
poll_noted n d w key dir waker (Some serial) answers =
    let waiter = poll_waiter w.poll_waiters serial dir in
    either n d (is_fresh_since w serial dir (mark_of w.marks serial dir)) _ _ _ _ (record { is = refl })
    (either n d (is_waker waker waiter) _ _ _ _ (pending_noted n d (is_broken w serial) w key serial [] answers)
    (pending_noted n d (is_idle w serial dir || is_broken w serial) (with_waiter w serial dir waker) key serial (option_to_list waiter) answers))

-- ## Listeners

new_noted : (n : List Event) (d : DueFaults) (w : World) (dir : Dir) (serial : Option ℕ) (answers : List PollerAnswer)
    → Noted n d (new_listener w dir serial answers) (new_listener (noting n d w) dir serial answers)
new_noted n d w dir None answers = record { is = refl }
new_noted n d w dir (Some serial) answers = record { is = refl }

step_noted : (n : List Event) (d : DueFaults) (w : World) (waker : Waker) (entry : Option ListenerEntry) (answers : List PollerAnswer)
    → Noted n d (step_listener w waker entry answers) (step_listener (noting n d w) waker entry answers)
step_noted n d w waker None answers = record { is = refl }
step_noted n d w waker (Some entry) answers =
    either n d (is_fresh_since w entry.serial entry.dir entry.position) _ _ _ _ (record { is = refl })
    (pending_noted n d (is_idle w entry.serial entry.dir || is_broken w entry.serial) (record w { listeners = with_listening w entry waker })
    (unwrap_or (key_of w entry.serial) 0) entry.serial [] answers)

drop_noted : (n : List Event) (d : DueFaults) (w : World) (number : ℕ) (entry : Option ListenerEntry) (answers : List PollerAnswer)
    → Noted n d (drop_listener w number entry answers) (drop_listener (noting n d w) number entry answers)
drop_noted n d w number None answers = record { is = refl }
drop_noted n d w number (Some entry) answers = record { is = refl }

-- ## Timers and the clock

unregistered_noted : (n : List Event) (d : DueFaults) (w : World) (id : Option ℕ) → unregistered (noting n d w) id ≡ noting n d (unregistered w id)
unregistered_noted n d w None = refl
unregistered_noted n d w (Some id) = refl

left_noted : (n : List Event) (d : DueFaults) (w : World) (left : TimerEntry) (registration : Option (ℕ × Waker))
    → left_as (noting n d w) left registration ≡ noting n d (left_as w left registration)
left_noted n d w left None = refl
left_noted n d w left (Some registration) = refl

worked_noted : (n : List Event) (d : DueFaults) (w : World) (entry : TimerEntry) (becomes : Option TimerState)
    → worked (noting n d w) entry becomes ≡ noting n d (worked w entry becomes)
worked_noted n d w entry None = refl
worked_noted n d w entry (Some timer) =
    let left : TimerEntry = record entry { deadline = timer.deadline; period = timer.period; id = None; kept = timer.kept } in
    ap (λ (v : World). left_as v left (joining timer)) (unregistered_noted n d w entry.id)
    ∙ left_noted n d (unregistered w entry.id) left (joining timer)

tick_noted : (n : List Event) (d : DueFaults) (w : World) (waker : Waker) (entry : Option TimerEntry) (answers : List PollerAnswer)
    → Noted n d (tick_timer w waker entry answers) (tick_timer (noting n d w) waker entry answers)
tick_noted n d w waker None answers = record { is = refl }
tick_noted n d w waker (Some entry) answers =
    let work = tick_work (is_some entry.id) (state_of entry) w.now waker in
    silent n d (worked w entry work.becomes) _ (tick_answer work.reached) answers (worked_noted n d w entry work.becomes)

set_noted : (n : List Event) (d : DueFaults) (w : World) (deadline : ℕ) (period : Option ℕ) (entry : Option TimerEntry) (answers : List PollerAnswer)
    → Noted n d (set_timer w deadline period entry answers) (set_timer (noting n d w) deadline period entry answers)
set_noted n d w deadline period None answers = record { is = refl }
set_noted n d w deadline period (Some entry) answers =
    let work = reset_work (state_of entry) deadline period in
    silent n d (worked w entry work.becomes) _ answer.Set answers (worked_noted n d w entry work.becomes)

end_noted : (n : List Event) (d : DueFaults) (w : World) (entry : Option TimerEntry) (answers : List PollerAnswer)
    → Noted n d (end_timer w entry answers) (end_timer (noting n d w) entry answers)
end_noted n d w None answers = record { is = refl }
end_noted n d w (Some entry) answers =
    let gone : World → World = λ (v : World). record v { timers = filter (λ t. not (is_timer entry.number t)) v.timers } in
    silent n d (gone (unregistered w entry.id)) _ answer.Ended answers (ap gone (unregistered_noted n d w entry.id))

clock_noted : (n : List Event) (d : DueFaults) (w : World) (moment : ℕ) (answers : List PollerAnswer)
    → Noted n d (set_clock w moment answers) (set_clock (noting n d w) moment answers)
clock_noted n d w moment answers = either n d (nat_lt moment w.now) _ _ _ _ (record { is = refl }) (record { is = refl })

-- ## Rounds

begin_noted : (n : List Event) (d : DueFaults) (w : World) (given : Option ℕ) (answers : List PollerAnswer)
    → Noted n d (begin_round w given answers) (begin_round (noting n d w) given answers)
begin_noted n d w given answers = either n d (is_some w.round) _ _ _ _ (record { is = refl }) (record { is = refl })

answered_noted : (n : List Event) (d : DueFaults) (w : World) (round : RoundState) (told : PollerAnswer) (rest : List PollerAnswer)
    → Noted n d (wait_answered w round told rest) (wait_answered (noting n d w) round told rest)
answered_noted n d w round Succeeds rest = record { is = refl }
answered_noted n d w round told rest = record { is = refl }

wait_noted : (n : List Event) (d : DueFaults) (w : World) (round : Option RoundState) (answers : List PollerAnswer)
    → Noted n d (wait_in w round answers) (wait_in (noting n d w) round answers)
wait_noted n d w None answers = record { is = refl }
wait_noted n d w (Some round) answers = either n d (is_empty_list round.in_hand) _ _ _ _ (answered_noted n d w round _ _) (record { is = refl })

taken_noted : (n : List Event) (d : DueFaults) (w : World) (serial begin : ℕ) (dirs : List Dir)
    → world_taken (noting n d w) serial begin dirs ≡ noting n d (world_taken w serial begin dirs)
taken_noted n d w serial begin [] = refl
taken_noted n d w serial begin (dir ∷ dirs) = taken_noted n d (without_waiters w serial begin dir) serial begin dirs

wakers_noted : (n : List Event) (d : DueFaults) (w : World) (serial begin : ℕ) (dirs : List Dir)
    → wakers_taken (noting n d w) serial begin dirs ≡ wakers_taken w serial begin dirs
wakers_noted n d w serial begin [] = refl
wakers_noted n d w serial begin (dir ∷ dirs) =
    ap (λ (more : List Waker). waiters_of w serial dir ++ more) (wakers_noted n d (without_waiters w serial begin dir) serial begin dirs)

rearmed_noted : (n : List Event) (d : DueFaults) (w : World) (round : RoundState) (key : Key) (serial : ℕ) (answers : List PollerAnswer)
    → Noted n d (rearmed w round key serial answers) (rearmed (noting n d w) round key serial answers)
rearmed_noted n d w round key serial answers =
    let told = next_answer answers in
    let arm = arm_noted n d w key.0 serial told in
    let armed = after_arm w key.0 serial told in
    let faulty : World → World = λ (v : World). record v { round = Some (record round { fault = first_fault round.fault FaultArm }) } in
    let made : World → Outcome =
    λ (v : World). record { answer = answer.Handled key (fails told); wakes = []; world = v; calls = which.Arm ∷ []; left = later_answers answers } in
    either n d (is_empty_list (wanted w serial)) (quiet (answer.Handled key false) w answers) (made (cond (fails told) (faulty armed) armed)) _ _
    (record { is = refl })
    (record {
      is = ap made
          (either_world n d (fails told) (faulty armed) armed (faulty (after_arm (noting n d w) key.0 serial told)) (after_arm (noting n d w) key.0 serial told)
          (ap faulty arm) arm);
    })

source_noted : (n : List Event) (d : DueFaults) (w : World) (round : RoundState) (event : Event) (serial : Option ℕ) (answers : List PollerAnswer)
    → Noted n d (handle_source w round event serial answers) (handle_source (noting n d w) round event serial answers)
source_noted n d w round event None answers = record { is = refl }
source_noted n d w round event (Some serial) answers =
    let dirs = directions_of event.on in
    let taken : RoundState = record round { taken = round.taken ++ wakers_taken w serial round.begin dirs } in
    let left : World = record (world_taken w serial round.begin dirs) { round = Some taken } in
    let same = rearmed_noted n d left taken event.key serial answers in
    record {
      is = ap (λ (wakers : List Waker). let now : RoundState = record round { taken = round.taken ++ wakers } in
          rearmed (record (world_taken (noting n d w) serial round.begin dirs) { round = Some now }) now event.key serial answers)
          (wakers_noted n d w serial round.begin dirs)
          ∙ ap (λ (v : World). rearmed (record v { round = Some taken }) taken event.key serial answers) (taken_noted n d w serial round.begin dirs)
          ∙ same.is;
    }

first_noted : (n : List Event) (d : DueFaults) (w : World) (round : RoundState) (events : List Event) (answers : List PollerAnswer)
    → Noted n d (handle_first w round events answers) (handle_first (noting n d w) round events answers)
first_noted n d w round [] answers = record { is = refl }
first_noted n d w round (event ∷ events) answers = source_noted n d w _ event (serial_of w event.key.0) answers

handle_noted : (n : List Event) (d : DueFaults) (w : World) (round : Option RoundState) (answers : List PollerAnswer)
    → Noted n d (handle_in w round answers) (handle_in (noting n d w) round answers)
handle_noted n d w None answers = record { is = refl }
handle_noted n d w (Some round) answers = first_noted n d w round round.in_hand answers

finish_noted : (n : List Event) (d : DueFaults) (w : World) (round : Option RoundState) (answers : List PollerAnswer)
    → Noted n d (finish_in w round answers) (finish_in (noting n d w) round answers)
finish_noted n d w None answers = record { is = refl }
finish_noted n d w (Some round) answers = either n d (is_empty_list round.in_hand) _ _ _ _ (record { is = refl }) (record { is = refl })

each_noted : (n : List Event) (d : DueFaults) (events : List Event) (w : World) (answers : List PollerAnswer)
    → Noted n d (handle_each events w answers) (handle_each events (noting n d w) answers)
each_noted n d [] w answers = record { is = refl }
each_noted n d (event ∷ events) w answers =
    let first = handle_round w answers in
    let rest = each_noted n d events first.world first.left in
    record {
      is = ap (λ (o : Outcome). let all : Outcome = record (handle_each events o.world o.left) { calls = o.calls ++ (handle_each events o.world o.left).calls } in all)
          (handle_noted n d w w.round answers).is
          ∙ ap (λ (o : Outcome). let all : Outcome = record o { calls = first.calls ++ o.calls } in all) rest.is;
    }

-- a whole round, of what its sections gave
abbrev whole : World → Outcome → Outcome → Outcome → Outcome
whole w waited handled ended = record {
  answer = answer.Round (w.rounds + 1) (length (hand_of waited.world.round)) (fault_of_round handled.world.round);
  wakes = ended.wakes;
  world = ended.world;
  calls = waited.calls ++ handled.calls;
  left = ended.left;
}

react_noted : (n : List Event) (d : DueFaults) (w : World) (given : Option ℕ) (answers : List PollerAnswer)
    → Noted n d (react w given answers) (react (noting n d w) given answers)
react_noted n d w given answers =
    let begun = begin_round w given answers in
    let waited = wait_round begun.world begun.left in
    let hand = hand_of waited.world.round in
    let handled = handle_each hand waited.world waited.left in
    let ended = finish_round handled.world handled.left in
    let ends : Outcome → Outcome = λ o. finish_round o.world o.left in
    let handles : Outcome → Outcome = λ o. handle_each (hand_of o.world.round) o.world o.left in
    let waits : Outcome → Outcome = λ o. wait_round o.world o.left in
    let waited_is = ap waits (begin_noted n d w given answers).is ∙ (wait_noted n d begun.world begun.world.round begun.left).is in
    either n d (is_some w.round) _ (whole w waited handled ended) _ _ (record { is = refl })
    (record {
      is = ap (λ (o : Outcome). whole w o (handles o) (ends (handles o))) waited_is
          ∙ ap (λ (o : Outcome). whole w waited o (ends o)) (each_noted n d hand waited.world waited.left).is
          ∙ ap (λ (o : Outcome). whole w waited handled o) (finish_noted n d handled.world handled.world.round handled.left).is;
    })

-- ## A step

-- what two outcomes have alike
alike : (n : List Event) (d : DueFaults) (o p : Outcome) → Noted n d o p → outcome_without_notes p ≡ outcome_without_notes o
alike n d o p noted = ap outcome_without_notes noted.is

case_alike : (n : List Event) (d : DueFaults) (w : World) (s : Step) (answers : List PollerAnswer)
    → outcome_without_notes (case_of (noting n d w) s answers) ≡ outcome_without_notes (case_of w s answers)
case_alike n d w step.Add answers = alike n d _ _ (add_noted n d w answers)
case_alike n d w (step.Del key) answers = alike n d _ _ (del_noted n d w key.0 (serial_of w key.0) answers)
case_alike n d w (step.Poll key dir waker) answers = alike n d _ _ (poll_noted n d w key.0 dir waker (serial_of w key.0) answers)
case_alike n d w (step.New key dir) answers = alike n d _ _ (new_noted n d w dir (serial_of w key.0) answers)
case_alike n d w (step.StepEar number waker) answers = alike n d _ _ (step_noted n d w waker (find (is_listener number) w.listeners) answers)
case_alike n d w (step.DropEar number) answers = alike n d _ _ (drop_noted n d w number (find (is_listener number) w.listeners) answers)
case_alike n d w (step.Tick number waker) answers = alike n d _ _ (tick_noted n d w waker (find (is_timer number) w.timers) answers)
case_alike n d w (step.SetAt number deadline) answers = alike n d _ _ (set_noted n d w deadline None (find (is_timer number) w.timers) answers)
case_alike n d w (step.SetEvery number deadline period) answers =
    alike n d _ _ (set_noted n d w deadline (Some period) (find (is_timer number) w.timers) answers)
case_alike n d w (step.End number) answers = alike n d _ _ (end_noted n d w (find (is_timer number) w.timers) answers)
case_alike n d w (step.Now moment) answers = alike n d _ _ (clock_noted n d w moment answers)
case_alike n d w (step.Begin limit) answers = alike n d _ _ (begin_noted n d w limit answers)
case_alike n d w step.Wait answers = alike n d _ _ (wait_noted n d w w.round answers)
case_alike n d w step.Handle answers = alike n d _ _ (handle_noted n d w w.round answers)
case_alike n d w step.Finish answers = alike n d _ _ (finish_noted n d w w.round answers)
case_alike n d w step.React answers = alike n d _ _ (react_noted n d w None answers)
case_alike n d w _ answers = refl

step_alike : (w : World) (s : Step) (answers : List PollerAnswer)
    → outcome_without_notes (step_result (without_notes w) s answers) ≡ outcome_without_notes (step_result w s answers)
unfolding step_result
step_alike w s answers = ap moved_on (case_alike [] nothing_due w s answers)

-- from two worlds that differ in what is noted and due alone, a step gives the same but for that
pub notes_unread : (w v : World) (s : Step) (answers : List PollerAnswer) → without_notes w ≡ without_notes v
    → outcome_without_notes (step_result w s answers) ≡ outcome_without_notes (step_result v s answers)
notes_unread w v s answers same =
    sym (step_alike w s answers)
    ∙ ap (λ (u : World). outcome_without_notes (step_result u s answers)) same
    ∙ step_alike v s answers
