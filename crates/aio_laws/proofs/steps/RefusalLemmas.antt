-- A step that is refused changes nothing: of each case of a step, an answer that is a refusal leaves the world, the wakes and the poller as they were.
use Rattle.std.proofs.Common.{◌≡◌, ℕ, Bool, true, false, cond, List, [], ◌∷◌, ◌++◌, Option, None, Some, refl, ap}
use Rattle.std.specs.Prelude.{◌==◌, nat_lt, nat_le, length, is_some}
use Rattle.std.specs.List.{list_any}
use Rattle.aio_base.specs.declared.names.Key.{Key}
use Rattle.aio_base.specs.declared.names.Waker.{Waker}
use Rattle.aio_base.specs.declared.names.Dir.{Dir}
use Rattle.aio_base.specs.declared.names.Event.{Event}
use Rattle.aio_base.specs.declared.steps.Step.{Step}
use Rattle.aio_base.specs.declared.steps.Step.TheVariants as step
use Rattle.aio_base.specs.declared.steps.Answer.{Answer}
use Rattle.aio_base.specs.World.{PollerAnswer, Succeeds, ListenerEntry, TimerEntry, RoundState, World, serial_of, directions_of, poll_waiter, mark_of, is_empty_list, wanted}
use Rattle.aio_base.specs.Machine.{Outcome, quiet, next_answer, later_answers, fails, world_taken, wakers_taken, pending, source_limit, is_fresh_since, is_waker, add, del_source, poll_source, new_listener, step_listener, drop_listener, tick_timer, set_timer, end_timer, set_clock, begin_round, wait_answered, wait_in, rearmed, handle_source, handle_first, handle_in, finish_in, react, case_of, moved_on, step_result}
use Rattle.aio_base.proofs.TimerCases.{tick_any}
use Rattle.aio_base.specs.Refusals.{is_refusal, only_counted, RefusalLeaves}
use Rattle.aio_laws.proofs.steps.Frames.{either}

-- an answer that is no refusal
record IsDone (a : Answer) : Type 0 where
  proceeds : is_refusal a ≡ false

-- where this outcome is refused, nothing has changed
record Refuses (w : World) (answers : List PollerAnswer) (o : Outcome) : Type 0 where
  unchanged : is_refusal o.answer ≡ true → o ≡ quiet o.answer w answers

plain : (a : Answer) → is_refusal a ≡ false → IsDone a
plain a proceeds = record { proceeds = proceeds }

-- an answer by a test
chosen : (test : Bool) (x y : Answer) → IsDone x → IsDone y → IsDone (cond test x y)
chosen true x y first second = first
chosen false x y first second = second

done : (w : World) (answers : List PollerAnswer) (o : Outcome) → IsDone o.answer → Refuses w answers o
done w answers o is_done = record { unchanged = λ refused. absurd (let proceeds = is_done.proceeds in cc) }

refused : (w : World) (answers : List PollerAnswer) (a : Answer) → Refuses w answers (quiet a w answers)
refused w answers a = record { unchanged = λ e. refl }

-- one of two outcomes
-- ## Sources and listeners

add_refuses : (w : World) (answers : List PollerAnswer) → Refuses w answers (add w answers)
add_refuses w answers =
    either (Refuses w answers) (nat_le source_limit (length w.live)) _ _ (refused w answers _) (done w answers _ (chosen (fails (next_answer answers)) _ _ (plain _ refl) (plain _ refl)))

del_refuses : (w : World) (key : ℕ) (serial : Option ℕ) (answers : List PollerAnswer) → Refuses w answers (del_source w key serial answers)
del_refuses w key None answers = refused w answers _
del_refuses w key (Some serial) answers =
    either (Refuses w answers) (list_any (λ (l : ListenerEntry). l.serial == serial) w.listeners) _ _ (refused w answers _) (done w answers _ (chosen (fails (next_answer answers)) _ _ (plain _ refl) (plain _ refl)))

pending_is_done : (test : Bool) (w : World) (key serial : ℕ) (wakes : List Waker) (answers : List PollerAnswer)
    → IsDone (pending test w key serial wakes answers).answer
pending_is_done false w key serial wakes answers = plain _ refl
pending_is_done true w key serial wakes answers = chosen (fails (next_answer answers)) _ _ (plain _ refl) (plain _ refl)

poll_refuses : (w : World) (key : ℕ) (dir : Dir) (waker : Waker) (serial : Option ℕ) (answers : List PollerAnswer)
    → Refuses w answers (poll_source w key dir waker serial answers)
poll_refuses w key dir waker None answers = refused w answers _
poll_refuses w key dir waker (Some serial) answers =
    either (Refuses w answers) (is_fresh_since w serial dir (mark_of w.marks serial dir)) _ _ (done w answers _ (plain _ refl))
    (either (Refuses w answers) (is_waker waker (poll_waiter w.poll_waiters serial dir)) _ _
    (done w answers _ (pending_is_done _ _ _ _ _ _)) (done w answers _ (pending_is_done _ _ _ _ _ _)))

new_refuses : (w : World) (dir : Dir) (serial : Option ℕ) (answers : List PollerAnswer) → Refuses w answers (new_listener w dir serial answers)
new_refuses w dir None answers = refused w answers _
new_refuses w dir (Some serial) answers = done w answers _ (plain _ refl)

listen_refuses : (w : World) (waker : Waker) (entry : Option ListenerEntry) (answers : List PollerAnswer)
    → Refuses w answers (step_listener w waker entry answers)
listen_refuses w waker None answers = refused w answers _
listen_refuses w waker (Some entry) answers =
    either (Refuses w answers) (is_fresh_since w entry.serial entry.dir entry.position) _ _ (done w answers _ (plain _ refl))
    (done w answers _ (pending_is_done _ _ _ _ _ _))

drop_refuses : (w : World) (number : ℕ) (entry : Option ListenerEntry) (answers : List PollerAnswer)
    → Refuses w answers (drop_listener w number entry answers)
drop_refuses w number None answers = refused w answers _
drop_refuses w number (Some entry) answers = done w answers _ (plain _ refl)

-- ## Timers and the clock

tick_refuses : (w : World) (waker : Waker) (entry : Option TimerEntry) (answers : List PollerAnswer) → Refuses w answers (tick_timer w waker entry answers)
tick_refuses w waker None answers = refused w answers _
tick_refuses w waker (Some entry) answers =
    tick_any (Refuses w answers) w waker entry answers (λ timers registrations ids. done w answers _ (plain _ refl))
    (λ deadline timers registrations ids. done w answers _ (plain _ refl))

set_refuses : (w : World) (deadline : ℕ) (period : Option ℕ) (entry : Option TimerEntry) (answers : List PollerAnswer)
    → Refuses w answers (set_timer w deadline period entry answers)
set_refuses w deadline period None answers = refused w answers _
set_refuses w deadline period (Some entry) answers = done w answers _ (plain _ refl)

end_refuses : (w : World) (entry : Option TimerEntry) (answers : List PollerAnswer) → Refuses w answers (end_timer w entry answers)
end_refuses w None answers = refused w answers _
end_refuses w (Some entry) answers = done w answers _ (plain _ refl)

clock_refuses : (w : World) (moment : ℕ) (answers : List PollerAnswer) → Refuses w answers (set_clock w moment answers)
clock_refuses w moment answers = either (Refuses w answers) (nat_lt moment w.now) _ _ (refused w answers _) (done w answers _ (plain _ refl))

-- ## Rounds

begin_refuses : (w : World) (given : Option ℕ) (answers : List PollerAnswer) → Refuses w answers (begin_round w given answers)
begin_refuses w given answers = either (Refuses w answers) (is_some w.round) _ _ (refused w answers _) (done w answers _ (plain _ refl))

wait_is_done : (w : World) (round : RoundState) (told : PollerAnswer) (rest : List PollerAnswer)
    → IsDone (wait_answered w round told rest).answer
wait_is_done w round Succeeds rest = plain _ refl
wait_is_done w round told rest = plain _ refl

wait_refuses : (w : World) (round : Option RoundState) (answers : List PollerAnswer) → Refuses w answers (wait_in w round answers)
wait_refuses w None answers = refused w answers _
wait_refuses w (Some round) answers =
    either (Refuses w answers) (is_empty_list round.in_hand) _ _ (done w answers _ (wait_is_done w round (next_answer answers) (later_answers answers))) (refused w answers _)

rearmed_is_done : (w : World) (round : RoundState) (key : Key) (serial : ℕ) (answers : List PollerAnswer)
    → IsDone (rearmed w round key serial answers).answer
rearmed_is_done w round key serial answers = either (λ o. IsDone o.answer) (is_empty_list (wanted w serial)) _ _ (plain _ refl) (plain _ refl)

handled_is_done : (w : World) (round : RoundState) (event : Event) (serial : Option ℕ) (answers : List PollerAnswer)
    → IsDone (handle_source w round event serial answers).answer
handled_is_done w round event None answers = plain _ refl
handled_is_done w round event (Some serial) answers =
    let dirs = directions_of event.on in
    let now_taken : RoundState = record round { taken = round.taken ++ wakers_taken w serial round.begin dirs } in
    rearmed_is_done (record (world_taken w serial round.begin dirs) { round = Some now_taken }) now_taken event.key serial answers

handle_refuses_of : (w : World) (round : RoundState) (events : List Event) (answers : List PollerAnswer)
    → Refuses w answers (handle_first w round events answers)
handle_refuses_of w round [] answers = refused w answers _
handle_refuses_of w round (event ∷ events) answers =
    done w answers _ (handled_is_done w (record round { in_hand = events }) event (serial_of w event.key.0) answers)

handle_refuses : (w : World) (round : Option RoundState) (answers : List PollerAnswer) → Refuses w answers (handle_in w round answers)
handle_refuses w None answers = refused w answers _
handle_refuses w (Some round) answers = handle_refuses_of w round round.in_hand answers

finish_refuses : (w : World) (round : Option RoundState) (answers : List PollerAnswer) → Refuses w answers (finish_in w round answers)
finish_refuses w None answers = refused w answers _
finish_refuses w (Some round) answers = either (Refuses w answers) (is_empty_list round.in_hand) _ _ (done w answers _ (plain _ refl)) (refused w answers _)

react_refuses : (w : World) (given : Option ℕ) (answers : List PollerAnswer) → Refuses w answers (react w given answers)
react_refuses w given answers = either (Refuses w answers) (is_some w.round) _ _ (refused w answers _) (done w answers _ (plain _ refl))

-- ## A step

case_refuses : (w : World) (s : Step) (answers : List PollerAnswer) → Refuses w answers (case_of w s answers)
case_refuses w step.Add answers = add_refuses w answers
case_refuses w (step.Del key) answers = del_refuses w key.0 _ answers
case_refuses w (step.Poll key dir waker) answers = poll_refuses w key.0 dir waker _ answers
case_refuses w (step.New key dir) answers = new_refuses w dir _ answers
case_refuses w (step.StepEar number waker) answers = listen_refuses w waker _ answers
case_refuses w (step.DropEar number) answers = drop_refuses w number _ answers
case_refuses w (step.Tick number waker) answers = tick_refuses w waker _ answers
case_refuses w (step.SetAt number deadline) answers = set_refuses w deadline None _ answers
case_refuses w (step.SetEvery number deadline period) answers = set_refuses w deadline (Some period) _ answers
case_refuses w (step.End number) answers = end_refuses w _ answers
case_refuses w (step.Now moment) answers = clock_refuses w moment answers
case_refuses w (step.Begin limit) answers = begin_refuses w limit answers
case_refuses w step.Wait answers = wait_refuses w w.round answers
case_refuses w step.Handle answers = handle_refuses w w.round answers
case_refuses w step.Finish answers = finish_refuses w w.round answers
case_refuses w step.React answers = react_refuses w None answers
case_refuses w _ answers = done w answers _ (plain _ refl)

-- a step that is refused takes its position, and does nothing else
pub refused_only_counts : (w : World) (s : Step) (answers : List PollerAnswer) → is_refusal (step_result w s answers).answer ≡ true
    → step_result w s answers ≡ only_counted (step_result w s answers).answer w answers
unfolding step_result
refused_only_counts w s answers is_refused = ap moved_on ((case_refuses w s answers).unchanged is_refused)

pub refusal_leaves : (w : World) (s : Step) (answers : List PollerAnswer)
    → RefusalLeaves w (step_result w s answers).answer (step_result w s answers).wakes (step_result w s answers).world
refusal_leaves w s answers = record {
  world = λ is_refused. ap (λ (o : Outcome). o.world) (refused_only_counts w s answers is_refused);
  woken = λ is_refused. ap (λ (o : Outcome). o.wakes) (refused_only_counts w s answers is_refused);
}
