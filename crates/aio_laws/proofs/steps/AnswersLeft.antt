-- Each call of the poller takes its next answer, and a step leaves all others.
use Rattle.std.proofs.Common.{◌≡◌, ℕ, zero, suc, ◌+◌, Bool, true, false, ◌||◌, ◌==◌, List, [], ◌∷◌, ◌++◌, length, find, Option, None, Some, is_some, refl, ap, ◌∙◌, sym, arith}
use Rattle.std.specs.Prelude.{drop, nat_le, nat_lt, option_to_list, unwrap_or}
use Rattle.std.specs.List.{list_any}
use Rattle.std.proofs.lemmas.List.{length-append}
use Rattle.aio_base.specs.declared.names.Key.{Key}
use Rattle.aio_base.specs.declared.names.Waker.{Waker}
use Rattle.aio_base.specs.declared.names.Dir.{Dir}
use Rattle.aio_base.specs.declared.names.Event.{Event}
use Rattle.aio_base.specs.declared.outcomes.Which.{Which}
use Rattle.aio_base.specs.declared.steps.Step.{Step}
use Rattle.aio_base.specs.declared.steps.Step.TheVariants as step
use Rattle.aio_base.specs.World.{PollerAnswer, Succeeds, ListenerEntry, RoundState, TimerEntry, World, is_empty_list, is_idle, is_broken, key_of, mark_of, poll_waiter, serial_of, wanted}
use Rattle.aio_base.specs.Machine.{Outcome, add, begin_round, case_of, del_source, drop_listener, end_timer, finish_in, handle_each, handle_first, handle_in, handle_round, handle_source, hand_of, is_fresh_since, is_listener, is_timer, is_waker, later_answers, new_listener, next_answer, pending, poll_source, react, rearmed, set_timer, source_limit, step_listener, step_result, tick_timer, wait_answered, wait_in, wait_round, with_listening, with_waiter}
use Rattle.aio_laws.specs.Calls.{LeavesOthers}
use Rattle.aio_laws.proofs.steps.Frames.{either}

-- what an outcome leaves of these answers
abbrev Left : List PollerAnswer → Outcome → Type 0
Left answers o = LeavesOthers o.calls answers o.left

one_taken : (answers : List PollerAnswer) → later_answers answers ≡ drop 1 answers
one_taken [] = refl
one_taken (a ∷ answers) = refl

none_dropped : (n : ℕ) → ◌≡◌ {A = List PollerAnswer} [] (drop n [])
none_dropped zero = refl
none_dropped (suc n) = refl

drop_both : (m n : ℕ) (answers : List PollerAnswer) → drop n (drop m answers) ≡ drop (m + n) answers
drop_both zero n answers = let same : n ≡ zero + n = omega arith in ap (λ k. drop k answers) same
drop_both (suc m) n [] = sym (none_dropped n) ∙ none_dropped (suc m + n)
drop_both (suc m) n (a ∷ answers) =
    let same : suc (m + n) ≡ suc m + n = omega arith in drop_both m n answers ∙ ap (λ k. drop k (a ∷ answers)) same

both_left : (first second : List Which) (answers middle left : List PollerAnswer) → LeavesOthers first answers middle → LeavesOthers second middle left
    → LeavesOthers (first ++ second) answers left
both_left first second answers middle left before after =
    after ∙ ap (drop (length second)) before ∙ drop_both (length first) (length second) answers
    ∙ ap (λ n. drop n answers) (sym (length-append first second))

-- ## Sources, listeners and timers

pending_left : (arms : Bool) (w : World) (key serial : ℕ) (wakes : List Waker) (answers : List PollerAnswer) → Left answers (pending arms w key serial wakes answers)
pending_left false w key serial wakes answers = refl
pending_left true w key serial wakes answers = one_taken answers

add_left : (w : World) (answers : List PollerAnswer) → Left answers (add w answers)
add_left w answers = either (Left answers) (nat_le source_limit (length w.live)) _ _ refl (one_taken answers)

del_left : (w : World) (key : ℕ) (serial : Option ℕ) (answers : List PollerAnswer) → Left answers (del_source w key serial answers)
del_left w key None answers = refl
del_left w key (Some serial) answers =
    either (Left answers) (list_any (λ (l : ListenerEntry). l.serial == serial) w.listeners) _ _ refl (one_taken answers)

poll_left : (w : World) (key : ℕ) (dir : Dir) (waker : Waker) (serial : Option ℕ) (answers : List PollerAnswer)
    → Left answers (poll_source w key dir waker serial answers)
poll_left w key dir waker None answers = refl
poll_left w key dir waker (Some serial) answers =
    let waiter = poll_waiter w.poll_waiters serial dir in
    either (Left answers) (is_fresh_since w serial dir (mark_of w.marks serial dir)) _ _ refl
    (either (Left answers) (is_waker waker waiter) _ _ (pending_left (is_broken w serial) w key serial [] answers)
    (pending_left (is_idle w serial dir || is_broken w serial) (with_waiter w serial dir waker) key serial (option_to_list waiter) answers))

new_left : (w : World) (dir : Dir) (serial : Option ℕ) (answers : List PollerAnswer) → Left answers (new_listener w dir serial answers)
new_left w dir None answers = refl
new_left w dir (Some serial) answers = refl

step_left : (w : World) (waker : Waker) (entry : Option ListenerEntry) (answers : List PollerAnswer) → Left answers (step_listener w waker entry answers)
step_left w waker None answers = refl
step_left w waker (Some entry) answers =
    either (Left answers) (is_fresh_since w entry.serial entry.dir entry.position) _ _ refl
    (pending_left (is_idle w entry.serial entry.dir || is_broken w entry.serial) (record w { listeners = with_listening w entry waker })
    (unwrap_or (key_of w entry.serial) 0) entry.serial [] answers)

drop_left : (w : World) (number : ℕ) (entry : Option ListenerEntry) (answers : List PollerAnswer) → Left answers (drop_listener w number entry answers)
drop_left w number None answers = refl
drop_left w number (Some entry) answers = refl

tick_left : (w : World) (waker : Waker) (entry : Option TimerEntry) (answers : List PollerAnswer) → Left answers (tick_timer w waker entry answers)
tick_left w waker None answers = refl
tick_left w waker (Some entry) answers = refl

set_left : (w : World) (deadline : ℕ) (period : Option ℕ) (entry : Option TimerEntry) (answers : List PollerAnswer)
    → Left answers (set_timer w deadline period entry answers)
set_left w deadline period None answers = refl
set_left w deadline period (Some entry) answers = refl

end_left : (w : World) (entry : Option TimerEntry) (answers : List PollerAnswer) → Left answers (end_timer w entry answers)
end_left w None answers = refl
end_left w (Some entry) answers = refl

-- ## Rounds

begin_left : (w : World) (given : Option ℕ) (answers : List PollerAnswer) → Left answers (begin_round w given answers)
begin_left w given answers = either (Left answers) (is_some w.round) _ _ refl refl

answered_left : (w : World) (round : RoundState) (told : PollerAnswer) (answers : List PollerAnswer) → Left answers (wait_answered w round told (later_answers answers))
answered_left w round Succeeds answers = one_taken answers
answered_left w round told answers = one_taken answers

wait_left : (w : World) (round : Option RoundState) (answers : List PollerAnswer) → Left answers (wait_in w round answers)
wait_left w None answers = refl
wait_left w (Some round) answers = either (Left answers) (is_empty_list round.in_hand) _ _ (answered_left w round (next_answer answers) answers) refl

rearmed_left : (w : World) (round : RoundState) (key : Key) (serial : ℕ) (answers : List PollerAnswer) → Left answers (rearmed w round key serial answers)
rearmed_left w round key serial answers = either (Left answers) (is_empty_list (wanted w serial)) _ _ refl (one_taken answers)

source_left : (w : World) (round : RoundState) (event : Event) (serial : Option ℕ) (answers : List PollerAnswer)
    → Left answers (handle_source w round event serial answers)
source_left w round event None answers = refl
source_left w round event (Some serial) answers = rearmed_left _ _ event.key serial answers

first_left : (w : World) (round : RoundState) (events : List Event) (answers : List PollerAnswer) → Left answers (handle_first w round events answers)
first_left w round [] answers = refl
first_left w round (event ∷ events) answers = source_left w (record round { in_hand = events }) event (serial_of w event.key.0) answers

handle_left : (w : World) (round : Option RoundState) (answers : List PollerAnswer) → Left answers (handle_in w round answers)
handle_left w None answers = refl
handle_left w (Some round) answers = first_left w round round.in_hand answers

each_left : (events : List Event) (w : World) (answers : List PollerAnswer) → Left answers (handle_each events w answers)
each_left [] w answers = refl
each_left (event ∷ events) w answers =
    let first = handle_round w answers in
    let rest = handle_each events first.world first.left in
    both_left first.calls rest.calls answers first.left rest.left (handle_left w w.round answers) (each_left events first.world first.left)

finish_left : (w : World) (round : Option RoundState) (answers : List PollerAnswer) → Left answers (finish_in w round answers)
finish_left w None answers = refl
finish_left w (Some round) answers = either (Left answers) (is_empty_list round.in_hand) _ _ refl refl

no_call : (w : World) (given : Option ℕ) (answers : List PollerAnswer) → (begin_round w given answers).left ≡ answers
no_call w given answers = either (λ o. o.left ≡ answers) (is_some w.round) _ _ refl refl

none_at_the_end : (w : World) (round : Option RoundState) (answers : List PollerAnswer) → (finish_in w round answers).left ≡ answers
none_at_the_end w None answers = refl
none_at_the_end w (Some round) answers = either (λ o. o.left ≡ answers) (is_empty_list round.in_hand) _ _ refl refl

react_left : (w : World) (given : Option ℕ) (answers : List PollerAnswer) → Left answers (react w given answers)
react_left w given answers =
    let begun = begin_round w given answers in
    let waited = wait_round begun.world begun.left in
    let hand = hand_of waited.world.round in
    let handled = handle_each hand waited.world waited.left in
    either (Left answers) (is_some w.round) _ _ refl
    (none_at_the_end handled.world handled.world.round handled.left
    ∙ both_left waited.calls handled.calls answers waited.left handled.left
    (wait_left begun.world begun.world.round begun.left ∙ ap (drop (length waited.calls)) (no_call w given answers))
    (each_left hand waited.world waited.left))

-- ## A step

case_left : (w : World) (s : Step) (answers : List PollerAnswer) → Left answers (case_of w s answers)
case_left w step.Add answers = add_left w answers
case_left w (step.Del key) answers = del_left w key.0 (serial_of w key.0) answers
case_left w (step.Poll key dir waker) answers = poll_left w key.0 dir waker (serial_of w key.0) answers
case_left w (step.New key dir) answers = new_left w dir (serial_of w key.0) answers
case_left w (step.StepEar number waker) answers = step_left w waker (find (is_listener number) w.listeners) answers
case_left w (step.DropEar number) answers = drop_left w number (find (is_listener number) w.listeners) answers
case_left w (step.Tick number waker) answers = tick_left w waker (find (is_timer number) w.timers) answers
case_left w (step.SetAt number deadline) answers = set_left w deadline None (find (is_timer number) w.timers) answers
case_left w (step.SetEvery number deadline period) answers = set_left w deadline (Some period) (find (is_timer number) w.timers) answers
case_left w (step.End number) answers = end_left w (find (is_timer number) w.timers) answers
case_left w (step.Now moment) answers = either (Left answers) (nat_lt moment w.now) _ _ refl refl
case_left w (step.Begin limit) answers = begin_left w limit answers
case_left w step.Wait answers = wait_left w w.round answers
case_left w step.Handle answers = handle_left w w.round answers
case_left w step.Finish answers = finish_left w w.round answers
case_left w step.React answers = react_left w None answers
case_left w _ answers = refl

pub answers_left : (w : World) (s : Step) (answers : List PollerAnswer)
    → LeavesOthers (step_result w s answers).calls answers (step_result w s answers).left
unfolding step_result
answers_left w s answers = case_left w s answers
