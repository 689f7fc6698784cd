-- A step draws a number where it tells one, and notes what it is told to note.
use Rattle.std.proofs.Common.{◌≡◌, ℕ, Bool, true, false, cond, ◌||◌, ◌==◌, List, [], ◌∷◌, ◌++◌, length, find, Option, None, Some, is_some, option_to_list, refl, sym, ap, ◌∙◌}
use Rattle.std.specs.Prelude.{nat_le, nat_lt, unwrap_or}
use Rattle.std.specs.List.{list_any}
use Rattle.aio_base.specs.declared.names.Key.{Key}
use Rattle.aio_base.specs.declared.names.Waker.{Waker}
use Rattle.aio_base.specs.declared.names.Dir.{Dir}
use Rattle.aio_base.specs.declared.names.Event.{Event}
use Rattle.aio_base.specs.declared.outcomes.Which.{Which}
use Rattle.aio_base.specs.declared.outcomes.Which.TheVariants as which
use Rattle.aio_base.specs.declared.steps.Step.{Step}
use Rattle.aio_base.specs.declared.steps.Step.TheVariants as step
use Rattle.aio_base.specs.declared.steps.Answer.{Answer}
use Rattle.aio_base.specs.declared.steps.Answer.TheVariants as answer
use Rattle.aio_base.specs.declared.outcomes.DueFaults.{DueFaults}
use Rattle.aio_base.specs.World.{PollerAnswer, Succeeds, ListenerEntry, TimerEntry, RoundState, World, directions_of, serial_of, key_of, poll_waiter, mark_of, is_empty_list, is_idle, is_broken, wanted}
use Rattle.aio_base.specs.Machine.{Outcome, fails, next_answer, later_answers, broken_world, armed_world, after_arm, pending, source_limit, add, del_source, is_fresh_since, is_waker, with_waiter, poll_source, new_listener, is_listener, with_listening, step_listener, drop_listener, is_timer, unregistered, tick_timer, set_timer, end_timer, begin_round, wait_answered, wait_in, wait_round, without_waiters, world_taken, wakers_taken, rearmed, handle_source, handle_first, handle_in, handle_round, finish_in, handle_each, hand_of, case_of, step_result}
use Rattle.aio_base.proofs.TimerCases.{tick_any, set_any}
use Rattle.aio_laws.specs.Drawn.{listeners_after, timers_after, noted_after, due_after, DrawsFollow}
use Rattle.aio_laws.proofs.timers.DrawnIds.{case_ids}
use Rattle.aio_laws.proofs.steps.Frames.{either, either_world}

-- what a step of the machine may draw or note
record Tally : Type 0 where
  drawn : ℕ
  made : ℕ
  noted : List Event
  due : DueFaults

abbrev tally : World → Tally
tally w = record { drawn = w.listeners_drawn; made = w.timers_made; noted = w.noted; due = w.due }

abbrev tally_after : World → Step → Answer → Tally
tally_after w s told = record {
  drawn = listeners_after told w.listeners_drawn;
  made = timers_after told w.timers_made;
  noted = noted_after s w.noted;
  due = due_after s w.due;
}

-- an outcome that tells no number and leaves the tally
record Rests (w : World) (o : Outcome) : Type 0 where
  world : tally o.world ≡ tally w
  drawn : (n : ℕ) → listeners_after o.answer n ≡ n
  made : (n : ℕ) → timers_after o.answer n ≡ n

rest : (w : World) (o : Outcome) → tally o.world ≡ tally w → ((n : ℕ) → listeners_after o.answer n ≡ n) → ((n : ℕ) → timers_after o.answer n ≡ n) → Rests w o
rest w o world drawn made = record { world = world; drawn = drawn; made = made }

by : (w : World) (test : Bool) (x y : Outcome) → Rests w x → Rests w y → Rests w (cond test x y)
by w test x y first second = either (Rests w) test x y first second

-- an answer by a test
one_of : (count : Answer → ℕ → ℕ) (test : Bool) (x y : Answer) → ((n : ℕ) → count x n ≡ n) → ((n : ℕ) → count y n ≡ n)
    → (n : ℕ) → count (cond test x y) n ≡ n
one_of count true x y first second = first
one_of count false x y first second = second

-- ## Sources and listeners

add_rests : (w : World) (answers : List PollerAnswer) → Rests w (add w answers)
add_rests w answers =
    by w (nat_le source_limit (length w.live)) _ _ (rest w _ refl (λ n. refl) (λ n. refl))
    (rest w _ (either_world (λ v. tally v ≡ tally w) (fails (next_answer answers)) w _ refl refl)
    (one_of listeners_after (fails (next_answer answers)) _ _ (λ n. refl) (λ n. refl)) (one_of timers_after (fails (next_answer answers)) _ _ (λ n. refl) (λ n. refl)))

del_rests : (w : World) (key : ℕ) (found : Option ℕ) (answers : List PollerAnswer) → Rests w (del_source w key found answers)
del_rests w key None answers = rest w _ refl (λ n. refl) (λ n. refl)
del_rests w key (Some serial) answers =
    by w (list_any (λ (l : ListenerEntry). l.serial == serial) w.listeners) _ _ (rest w _ refl (λ n. refl) (λ n. refl))
    (rest w _ refl (one_of listeners_after (fails (next_answer answers)) _ _ (λ n. refl) (λ n. refl)) (one_of timers_after (fails (next_answer answers)) _ _ (λ n. refl) (λ n. refl)))

arm_rests : (w : World) (key serial : ℕ) (told : PollerAnswer) → tally (after_arm w key serial told) ≡ tally w
arm_rests w key serial told = either_world (λ v. tally v ≡ tally w) (fails told) (broken_world w serial) (armed_world w key serial) refl refl

pending_rests : (w v : World) (arms : Bool) (key serial : ℕ) (wakes : List Waker) (answers : List PollerAnswer) → tally v ≡ tally w
    → Rests w (pending arms v key serial wakes answers)
pending_rests w v false key serial wakes answers same = rest w _ same (λ n. refl) (λ n. refl)
pending_rests w v true key serial wakes answers same =
    rest w _ (arm_rests v key serial (next_answer answers) ∙ same)
    (one_of listeners_after (fails (next_answer answers)) _ _ (λ n. refl) (λ n. refl)) (one_of timers_after (fails (next_answer answers)) _ _ (λ n. refl) (λ n. refl))

poll_rests : (w : World) (key : ℕ) (dir : Dir) (waker : Waker) (found : Option ℕ) (answers : List PollerAnswer) → Rests w (poll_source w key dir waker found answers)
poll_rests w key dir waker None answers = rest w _ refl (λ n. refl) (λ n. refl)
poll_rests w key dir waker (Some serial) answers =
    let waiter = poll_waiter w.poll_waiters serial dir in
    by w (is_fresh_since w serial dir (mark_of w.marks serial dir)) _ _ (rest w _ refl (λ n. refl) (λ n. refl))
    (by w (is_waker waker waiter) _ _ (pending_rests w w (is_broken w serial) key serial [] answers refl)
    (pending_rests w (with_waiter w serial dir waker) (is_idle w serial dir || is_broken w serial) key serial (option_to_list waiter) answers refl))

listen_rests : (w : World) (waker : Waker) (found : Option ListenerEntry) (answers : List PollerAnswer) → Rests w (step_listener w waker found answers)
listen_rests w waker None answers = rest w _ refl (λ n. refl) (λ n. refl)
listen_rests w waker (Some entry) answers =
    by w (is_fresh_since w entry.serial entry.dir entry.position) _ _ (rest w _ refl (λ n. refl) (λ n. refl))
    (pending_rests w (record w { listeners = with_listening w entry waker }) (is_idle w entry.serial entry.dir || is_broken w entry.serial)
    (unwrap_or (key_of w entry.serial) 0) entry.serial [] answers refl)

drop_rests : (w : World) (number : ℕ) (found : Option ListenerEntry) (answers : List PollerAnswer) → Rests w (drop_listener w number found answers)
drop_rests w number None answers = rest w _ refl (λ n. refl) (λ n. refl)
drop_rests w number (Some entry) answers = rest w _ refl (λ n. refl) (λ n. refl)

new_draws : (w : World) (key : Key) (dir : Dir) (found : Option ℕ) (answers : List PollerAnswer)
    → tally (new_listener w dir found answers).world ≡ tally_after w (step.New key dir) (new_listener w dir found answers).answer
new_draws w key dir None answers = refl
new_draws w key dir (Some serial) answers = refl

-- ## Timers

gone_rests : (w : World) (id : Option ℕ) → tally (unregistered w id) ≡ tally w
gone_rests w None = refl
gone_rests w (Some id) = refl

tick_rests : (w : World) (waker : Waker) (found : Option TimerEntry) (answers : List PollerAnswer) → Rests w (tick_timer w waker found answers)
tick_rests w waker None answers = rest w _ refl (λ n. refl) (λ n. refl)
tick_rests w waker (Some entry) answers =
    tick_any (Rests w) w waker entry answers (λ timers registrations ids. rest w _ refl (λ n. refl) (λ n. refl))
    (λ deadline timers registrations ids. rest w _ refl (λ n. refl) (λ n. refl))

set_rests : (w : World) (deadline : ℕ) (period : Option ℕ) (found : Option TimerEntry) (answers : List PollerAnswer) → Rests w (set_timer w deadline period found answers)
set_rests w deadline period None answers = rest w _ refl (λ n. refl) (λ n. refl)
set_rests w deadline period (Some entry) answers =
    set_any (Rests w) w deadline period entry answers (λ timers registrations ids. rest w _ refl (λ n. refl) (λ n. refl))

end_rests : (w : World) (found : Option TimerEntry) (answers : List PollerAnswer) → Rests w (end_timer w found answers)
end_rests w None answers = rest w _ refl (λ n. refl) (λ n. refl)
end_rests w (Some entry) answers = rest w _ (gone_rests w entry.id) (λ n. refl) (λ n. refl)

-- ## Rounds

answered_rests : (w : World) (round : RoundState) (told : PollerAnswer) (left : List PollerAnswer) → Rests w (wait_answered w round told left)
answered_rests w round Succeeds left = rest w _ refl (λ n. refl) (λ n. refl)
answered_rests w round told left = rest w _ refl (λ n. refl) (λ n. refl)

wait_rests : (w : World) (round : Option RoundState) (answers : List PollerAnswer) → Rests w (wait_in w round answers)
wait_rests w None answers = rest w _ refl (λ n. refl) (λ n. refl)
wait_rests w (Some round) answers =
    by w (is_empty_list round.in_hand) _ _ (answered_rests w round (next_answer answers) (later_answers answers)) (rest w _ refl (λ n. refl) (λ n. refl))

taken_rests : (dirs : List Dir) (w : World) (serial begin : ℕ) → tally (world_taken w serial begin dirs) ≡ tally w
taken_rests [] w serial begin = refl
taken_rests (dir ∷ dirs) w serial begin = taken_rests dirs (without_waiters w serial begin dir) serial begin

rearmed_rests : (w v : World) (round : RoundState) (key : Key) (serial : ℕ) (answers : List PollerAnswer) → tally v ≡ tally w
    → Rests w (rearmed v round key serial answers)
rearmed_rests w v round key serial answers same =
    let arm = arm_rests v key.0 serial (next_answer answers) ∙ same in
    by w (is_empty_list (wanted v serial)) _ _ (rest w _ same (λ n. refl) (λ n. refl))
    (rest w _ (either_world (λ x. tally x ≡ tally w) (fails (next_answer answers)) _ _ arm arm) (λ n. refl) (λ n. refl))

source_rests : (w : World) (round : RoundState) (event : Event) (found : Option ℕ) (answers : List PollerAnswer) → Rests w (handle_source w round event found answers)
source_rests w round event None answers = rest w _ refl (λ n. refl) (λ n. refl)
source_rests w round event (Some serial) answers =
    let taken = record round { taken = round.taken ++ wakers_taken w serial round.begin (directions_of event.on) } in
    rearmed_rests w (record (world_taken w serial round.begin (directions_of event.on)) { round = Some taken }) taken event.key serial answers
    (taken_rests (directions_of event.on) w serial round.begin)

first_rests : (w : World) (round : RoundState) (hand : List Event) (answers : List PollerAnswer) → Rests w (handle_first w round hand answers)
first_rests w round [] answers = rest w _ refl (λ n. refl) (λ n. refl)
first_rests w round (event ∷ events) answers = source_rests w (record round { in_hand = events }) event (serial_of w event.key.0) answers

handle_rests : (w : World) (round : Option RoundState) (answers : List PollerAnswer) → Rests w (handle_in w round answers)
handle_rests w None answers = rest w _ refl (λ n. refl) (λ n. refl)
handle_rests w (Some round) answers = first_rests w round round.in_hand answers

each_rests : (events : List Event) (w : World) (answers : List PollerAnswer) → tally (handle_each events w answers).world ≡ tally w
each_rests [] w answers = refl
each_rests (event ∷ events) w answers =
    each_rests events (handle_round w answers).world (handle_round w answers).left ∙ (handle_rests w w.round answers).world

finish_rests : (w : World) (round : Option RoundState) (answers : List PollerAnswer) → Rests w (finish_in w round answers)
finish_rests w None answers = rest w _ refl (λ n. refl) (λ n. refl)
finish_rests w (Some round) answers = by w (is_empty_list round.in_hand) _ _ (rest w _ refl (λ n. refl) (λ n. refl)) (rest w _ refl (λ n. refl) (λ n. refl))

begin_rests : (w : World) (given : Option ℕ) (answers : List PollerAnswer) → Rests w (begin_round w given answers)
begin_rests w given answers = by w (is_some w.round) _ _ (rest w _ refl (λ n. refl) (λ n. refl)) (rest w _ refl (λ n. refl) (λ n. refl))

react_rests : (w : World) (answers : List PollerAnswer) → Rests w (case_of w step.React answers)
react_rests w answers =
    let begun = begin_round w None answers in
    let waited = wait_round begun.world begun.left in
    let hand = hand_of waited.world.round in
    let handled = handle_each hand waited.world waited.left in
    by w (is_some w.round) _ _ (rest w _ refl (λ n. refl) (λ n. refl))
    (rest w _ ((finish_rests handled.world handled.world.round handled.left).world ∙ each_rests hand waited.world waited.left
    ∙ (wait_rests begun.world begun.world.round begun.left).world ∙ (begin_rests w None answers).world) (λ n. refl) (λ n. refl))

-- ## A step

rests_follow : (w : World) (s : Step) (o : Outcome) → Rests w o → noted_after s w.noted ≡ w.noted → due_after s w.due ≡ w.due
    → tally o.world ≡ tally_after w s o.answer
rests_follow w s o r noted due =
    r.world
    ∙ ap (λ (n : ℕ). let t : Tally = record (tally w) { drawn = n } in t) (sym (r.drawn w.listeners_drawn))
    ∙ ap (λ (n : ℕ). let t : Tally = record (tally w) { drawn = listeners_after o.answer w.listeners_drawn; made = n } in t) (sym (r.made w.timers_made))
    ∙ ap (λ (events : List Event). let t : Tally = record (tally_after w s o.answer) { noted = events; due = w.due } in t) (sym noted)
    ∙ ap (λ (d : DueFaults). let t : Tally = record (tally_after w s o.answer) { due = d } in t) (sym due)

fault_draws : (w : World) (kind : Which) (answers : List PollerAnswer) → tally (case_of w (step.Fault kind) answers).world ≡ tally_after w (step.Fault kind) answer.Noted
fault_draws w which.Add answers = refl
fault_draws w kind answers = refl

case_draws : (w : World) (s : Step) (answers : List PollerAnswer) → tally (case_of w s answers).world ≡ tally_after w s (case_of w s answers).answer
case_draws w step.Add answers = rests_follow w step.Add _ (add_rests w answers) refl refl
case_draws w (step.Del key) answers = rests_follow w (step.Del key) _ (del_rests w key.0 (serial_of w key.0) answers) refl refl
case_draws w (step.Poll key dir waker) answers = rests_follow w (step.Poll key dir waker) _ (poll_rests w key.0 dir waker (serial_of w key.0) answers) refl refl
case_draws w (step.New key dir) answers = new_draws w key dir (serial_of w key.0) answers
case_draws w (step.StepEar number waker) answers =
    rests_follow w (step.StepEar number waker) _ (listen_rests w waker (find (is_listener number) w.listeners) answers) refl refl
case_draws w (step.DropEar number) answers = rests_follow w (step.DropEar number) _ (drop_rests w number (find (is_listener number) w.listeners) answers) refl refl
case_draws w (step.Tick number waker) answers = rests_follow w (step.Tick number waker) _ (tick_rests w waker (find (is_timer number) w.timers) answers) refl refl
case_draws w (step.SetAt number deadline) answers =
    rests_follow w (step.SetAt number deadline) _ (set_rests w deadline None (find (is_timer number) w.timers) answers) refl refl
case_draws w (step.SetEvery number deadline period) answers =
    rests_follow w (step.SetEvery number deadline period) _ (set_rests w deadline (Some period) (find (is_timer number) w.timers) answers) refl refl
case_draws w (step.End number) answers = rests_follow w (step.End number) _ (end_rests w (find (is_timer number) w.timers) answers) refl refl
case_draws w (step.Now moment) answers =
    rests_follow w (step.Now moment) _ (by w (nat_lt moment w.now) _ _ (rest w _ refl (λ n. refl) (λ n. refl)) (rest w _ refl (λ n. refl) (λ n. refl))) refl refl
case_draws w (step.Fault kind) answers = fault_draws w kind answers
case_draws w (step.Begin limit) answers = rests_follow w (step.Begin limit) _ (begin_rests w limit answers) refl refl
case_draws w step.Wait answers = rests_follow w step.Wait _ (wait_rests w w.round answers) refl refl
case_draws w step.Handle answers = rests_follow w step.Handle _ (handle_rests w w.round answers) refl refl
case_draws w step.Finish answers = rests_follow w step.Finish _ (finish_rests w w.round answers) refl refl
case_draws w step.React answers = rests_follow w step.React _ (react_rests w answers) refl refl
case_draws w _ answers = refl

pub draws_follow : (w : World) (s : Step) (answers : List PollerAnswer) → DrawsFollow w s (step_result w s answers).answer (step_result w s answers).world
unfolding step_result
draws_follow w s answers =
    let is = case_draws w s answers in
    record {
      listeners = ap (λ (t : Tally). t.drawn) is;
      timers = ap (λ (t : Tally). t.made) is;
      ids = case_ids w s answers;
      noted = ap (λ (t : Tally). t.noted) is;
      due = ap (λ (t : Tally). t.due) is;
    }
