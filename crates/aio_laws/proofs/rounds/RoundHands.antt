-- What a step leaves of the running round: its hand, the answer of its last wait, and its first fault.
use Rattle.std.proofs.Common.{◌≡◌, ℕ, Bool, true, false, cond, ◌||◌, ◌==◌, List, [], ◌∷◌, length, find, Option, None, Some, is_some, refl, ap, ◌∙◌, sym, subst}
use Rattle.std.specs.Prelude.{nat_lt, nat_le, option_to_list, unwrap_or}
use Rattle.std.specs.List.{list_any}
use Rattle.aio_base.specs.declared.names.Key.{Key}
use Rattle.aio_base.specs.declared.names.Waker.{Waker}
use Rattle.aio_base.specs.declared.names.Dir.{Dir}
use Rattle.aio_base.specs.declared.names.Event.{Event}
use Rattle.aio_base.specs.declared.outcomes.EndWord.{EndWord}
use Rattle.aio_base.specs.declared.outcomes.EndWord.TheVariants.{FaultWait, FaultArm}
use Rattle.aio_base.specs.declared.steps.Step.{Step}
use Rattle.aio_base.specs.declared.steps.Step.TheVariants as step
use Rattle.aio_base.specs.declared.steps.Answer.{Answer}
use Rattle.aio_base.specs.declared.steps.Answer.TheVariants as answer
use Rattle.aio_base.specs.World.{PollerAnswer, Succeeds, Gives, IsInterrupted, Fails, ListenerEntry, TimerEntry, RoundState, World, serial_of, key_of, poll_waiter, mark_of, is_empty_list, is_idle, is_broken}
use Rattle.aio_base.specs.Machine.{Outcome, next_answer, later_answers, fails, broken_world, armed_world, after_arm, pending, source_limit, add, del_source, is_fresh_since, is_waker, with_waiter, poll_source, new_listener, is_listener, with_listening, step_listener, drop_listener, is_timer, unregistered, tick_timer, set_timer, end_timer, set_clock, begin_round, wait_answered, wait_in, handle_source, handle_first, handle_in, hand_of, fault_of_round, finish_in, react, case_of, step_result}
use Rattle.aio_base.proofs.TimerCases.{tick_any, set_any}
use Rattle.aio_laws.specs.RoundCounts.{name_of}
use Rattle.aio_laws.specs.RoundHands.{HandMoves, last_wait_of, last_wait_after, fault_kept, fault_after, HandFollows}
use Rattle.aio_laws.proofs.steps.Frames.{either, either_world}
use Rattle.aio_laws.proofs.rounds.RoundFaults.{first_is_kept, source_handles}
use Rattle.aio_laws.proofs.rounds.RoundSteps.{react_ends}

-- ## Other steps leave the round

-- the outcome has this round
abbrev Runs : World → Outcome → Type 0
Runs w o = o.world.round ≡ w.round

arm_runs : (w v : World) (key serial : ℕ) (told : PollerAnswer) → v.round ≡ w.round → (after_arm v key serial told).round ≡ w.round
arm_runs w v key serial told same = either_world (λ u. u.round ≡ w.round) (fails told) (broken_world v serial) (armed_world v key serial) same same

pending_runs : (arms : Bool) (w v : World) (key serial : ℕ) (wakes : List Waker) (answers : List PollerAnswer) → v.round ≡ w.round
    → Runs w (pending arms v key serial wakes answers)
pending_runs false w v key serial wakes answers same = same
pending_runs true w v key serial wakes answers same = arm_runs w v key serial (next_answer answers) same

add_runs : (w : World) (answers : List PollerAnswer) → Runs w (add w answers)
add_runs w answers =
    either (Runs w) (nat_le source_limit (length w.live)) _ _ refl (either_world (λ v. v.round ≡ w.round) (fails (next_answer answers)) w _ refl refl)

del_runs : (w : World) (key : ℕ) (serial : Option ℕ) (answers : List PollerAnswer) → Runs w (del_source w key serial answers)
del_runs w key None answers = refl
del_runs w key (Some serial) answers = either (Runs w) (list_any (λ (l : ListenerEntry). l.serial == serial) w.listeners) _ _ refl refl

poll_runs : (w : World) (key : ℕ) (dir : Dir) (waker : Waker) (serial : Option ℕ) (answers : List PollerAnswer) → Runs w (poll_source w key dir waker serial answers)
poll_runs w key dir waker None answers = refl
poll_runs w key dir waker (Some serial) answers =
    let waiter = poll_waiter w.poll_waiters serial dir in
    either (Runs w) (is_fresh_since w serial dir (mark_of w.marks serial dir)) _ _ refl
    (either (Runs w) (is_waker waker waiter) _ _ (pending_runs (is_broken w serial) w w key serial [] answers refl)
    (pending_runs (is_idle w serial dir || is_broken w serial) w (with_waiter w serial dir waker) key serial (option_to_list waiter) answers refl))

new_runs : (w : World) (dir : Dir) (serial : Option ℕ) (answers : List PollerAnswer) → Runs w (new_listener w dir serial answers)
new_runs w dir None answers = refl
new_runs w dir (Some serial) answers = refl

listen_runs : (w : World) (waker : Waker) (entry : Option ListenerEntry) (answers : List PollerAnswer) → Runs w (step_listener w waker entry answers)
listen_runs w waker None answers = refl
listen_runs w waker (Some entry) answers =
    either (Runs w) (is_fresh_since w entry.serial entry.dir entry.position) _ _ refl
    (pending_runs (is_idle w entry.serial entry.dir || is_broken w entry.serial) w (record w { listeners = with_listening w entry waker })
    (unwrap_or (key_of w entry.serial) 0) entry.serial [] answers refl)

drop_runs : (w : World) (number : ℕ) (entry : Option ListenerEntry) (answers : List PollerAnswer) → Runs w (drop_listener w number entry answers)
drop_runs w number None answers = refl
drop_runs w number (Some entry) answers = refl

gone_runs : (w : World) (id : Option ℕ) → (unregistered w id).round ≡ w.round
gone_runs w None = refl
gone_runs w (Some id) = refl

tick_runs : (w : World) (waker : Waker) (entry : Option TimerEntry) (answers : List PollerAnswer) → Runs w (tick_timer w waker entry answers)
tick_runs w waker None answers = refl
tick_runs w waker (Some entry) answers =
    tick_any (Runs w) w waker entry answers (λ timers registrations ids. refl) (λ deadline timers registrations ids. refl)

set_runs : (w : World) (deadline : ℕ) (period : Option ℕ) (entry : Option TimerEntry) (answers : List PollerAnswer) → Runs w (set_timer w deadline period entry answers)
set_runs w deadline period None answers = refl
set_runs w deadline period (Some entry) answers = set_any (Runs w) w deadline period entry answers (λ timers registrations ids. refl)

end_runs : (w : World) (entry : Option TimerEntry) (answers : List PollerAnswer) → Runs w (end_timer w entry answers)
end_runs w None answers = refl
end_runs w (Some entry) answers = gone_runs w entry.id

clock_runs : (w : World) (moment : ℕ) (answers : List PollerAnswer) → Runs w (set_clock w moment answers)
clock_runs w moment answers = either (Runs w) (nat_lt moment w.now) _ _ refl refl

-- ## A round begins and waits

abbrev Follows : World → Step → List PollerAnswer → Outcome → Type 0
Follows w s answers o = HandFollows w s answers o.answer o.world

by_test : (P : Outcome → Type 0) (test : Bool) (x y : Outcome) → (test ≡ true → P x) → (test ≡ false → P y) → P (cond test x y)
by_test P true x y first second = first refl
by_test P false x y first second = second refl

begin_follows : (w : World) (given : Option ℕ) (answers : List PollerAnswer) → Follows w (step.Begin given) answers (begin_round w given answers)
begin_follows w given answers =
    either (Follows w (step.Begin given) answers) (is_some w.round) _ _ (record { hand = refl; waited = refl; fault = refl }) (record { hand = refl; waited = refl; fault = refl })

empty_is : (events : List Event) → is_empty_list events ≡ true → events ≡ []
empty_is [] empty = refl
empty_is (event ∷ events) empty = absurd cc

-- what an outcome of a wait leaves, by what the poller answered
record Waited (w : World) (round : RoundState) (given : PollerAnswer) (o : Outcome) : Type 0 where
  hand : HandMoves step.Wait given o.answer round.in_hand (hand_of o.world.round)
  waited : last_wait_of o.world.round ≡ last_wait_after step.Wait given o.answer round.last_wait
  fault : fault_of_round o.world.round ≡ fault_after step.Wait o.answer round.fault

answered_waits : (w : World) (round : RoundState) (given : PollerAnswer) (rest : List PollerAnswer) → round.in_hand ≡ []
    → Waited w round given (wait_answered w round given rest)
answered_waits w round Succeeds rest empty = record { hand = empty; waited = refl; fault = refl }
answered_waits w round (Gives events) rest empty = record { hand = refl; waited = refl; fault = refl }
answered_waits w round IsInterrupted rest empty = record { hand = empty; waited = refl; fault = refl }
answered_waits w round Fails rest empty = record { hand = empty; waited = refl; fault = first_is_kept round.fault FaultWait }

of_round : (w : World) (round : Option RoundState) (s : Step) (answers : List PollerAnswer) (told : Answer) (v : World) → w.round ≡ round
    → HandMoves s (next_answer answers) told (hand_of round) (hand_of v.round)
    → last_wait_of v.round ≡ last_wait_after s (next_answer answers) told (last_wait_of round)
    → fault_of_round v.round ≡ fault_after s told (fault_of_round round)
    → HandFollows w s answers told v
of_round w round s answers told v is hand waited fault = record {
  hand = subst (λ r. HandMoves s (next_answer answers) told (hand_of r) (hand_of v.round)) (sym is) hand;
  waited = subst (λ r. last_wait_of v.round ≡ last_wait_after s (next_answer answers) told (last_wait_of r)) (sym is) waited;
  fault = subst (λ r. fault_of_round v.round ≡ fault_after s told (fault_of_round r)) (sym is) fault;
}

wait_follows : (w : World) (round : Option RoundState) (answers : List PollerAnswer) → w.round ≡ round → Follows w step.Wait answers (wait_in w round answers)
wait_follows w None answers is = record { hand = refl; waited = refl; fault = refl }
wait_follows w (Some round) answers is =
    by_test (Follows w step.Wait answers) (is_empty_list round.in_hand) _ _
    (λ empty.
    let o = wait_answered w round (next_answer answers) (later_answers answers) in
    let waits = answered_waits w round (next_answer answers) (later_answers answers) (empty_is round.in_hand empty) in
    of_round w (Some round) step.Wait answers o.answer o.world is waits.hand waits.waited waits.fault)
    (λ some. record { hand = refl; waited = refl; fault = refl })

-- ## An event is handled

fault_handled : (failed : Bool) (key : Key) (before : EndWord) → cond failed (fault_kept before FaultArm) before ≡ fault_after step.Handle (answer.Handled key failed) before
fault_handled true key before = refl
fault_handled false key before = refl

first_follows : (w : World) (round : RoundState) (hand : List Event) (answers : List PollerAnswer) → w.round ≡ Some round → round.in_hand ≡ hand
    → Follows w step.Handle answers (handle_first w round hand answers)
first_follows w round [] answers is held = record { hand = refl; waited = refl; fault = refl }
first_follows w round (event ∷ events) answers is held =
    let o = handle_source w (record round { in_hand = events }) event (serial_of w event.key.0) answers in
    let h = source_handles w (record round { in_hand = events }) event (serial_of w event.key.0) answers in
    subst (λ told. HandFollows w step.Handle answers told o.world) (sym h.told)
    (of_round w (Some round) step.Handle answers (answer.Handled event.key h.failed) o.world is
    (record { event = event; of_key = refl; hand = held ∙ ap (λ (rest : List Event). event ∷ rest) (sym h.hand) })
    h.waited (h.fault ∙ fault_handled h.failed event.key round.fault))

handle_follows : (w : World) (round : Option RoundState) (answers : List PollerAnswer) → w.round ≡ round → Follows w step.Handle answers (handle_in w round answers)
handle_follows w None answers is = record { hand = refl; waited = refl; fault = refl }
handle_follows w (Some round) answers is = first_follows w round round.in_hand answers is refl

-- ## A round ends

finish_follows : (w : World) (round : Option RoundState) (answers : List PollerAnswer) → w.round ≡ round → Follows w step.Finish answers (finish_in w round answers)
finish_follows w None answers is = record { hand = refl; waited = refl; fault = refl }
finish_follows w (Some round) answers is =
    by_test (Follows w step.Finish answers) (is_empty_list round.in_hand) _ _
    (λ empty. record { hand = sym (ap hand_of is ∙ empty_is round.in_hand empty); waited = refl; fault = refl })
    (λ some. record { hand = refl; waited = refl; fault = refl })

nameless : (round : Option RoundState) → name_of round ≡ None → round ≡ None
nameless None none = refl
nameless (Some round) none = absurd cc

unnamed : (round : Option RoundState) → is_some round ≡ false → round ≡ None
unnamed None none = refl
unnamed (Some round) none = absurd cc

react_runs : (w : World) (answers : List PollerAnswer) → Runs w (react w None answers)
react_runs w answers =
    by_test (Runs w) (is_some w.round) _ _ (λ runs. refl)
    (λ none.
    let gone = unnamed w.round none in
    nameless _ (react_ends w answers none ∙ ap name_of gone) ∙ sym gone)

-- ## A step

hand_moves : (w : World) (s : Step) (answers : List PollerAnswer) → Follows w s answers (case_of w s answers)
hand_moves w step.Add answers =
    let same = add_runs w answers in record { hand = ap hand_of same; waited = ap last_wait_of same; fault = ap fault_of_round same }
hand_moves w (step.Del key) answers =
    let same = del_runs w key.0 (serial_of w key.0) answers in record { hand = ap hand_of same; waited = ap last_wait_of same; fault = ap fault_of_round same }
hand_moves w (step.Poll key dir waker) answers =
    let same = poll_runs w key.0 dir waker (serial_of w key.0) answers in record { hand = ap hand_of same; waited = ap last_wait_of same; fault = ap fault_of_round same }
hand_moves w (step.New key dir) answers =
    let same = new_runs w dir (serial_of w key.0) answers in record { hand = ap hand_of same; waited = ap last_wait_of same; fault = ap fault_of_round same }
hand_moves w (step.StepEar number waker) answers =
    let same = listen_runs w waker (find (is_listener number) w.listeners) answers in record { hand = ap hand_of same; waited = ap last_wait_of same; fault = ap fault_of_round same }
hand_moves w (step.DropEar number) answers =
    let same = drop_runs w number (find (is_listener number) w.listeners) answers in record { hand = ap hand_of same; waited = ap last_wait_of same; fault = ap fault_of_round same }
hand_moves w (step.Tick number waker) answers =
    let same = tick_runs w waker (find (is_timer number) w.timers) answers in record { hand = ap hand_of same; waited = ap last_wait_of same; fault = ap fault_of_round same }
hand_moves w (step.SetAt number deadline) answers =
    let same = set_runs w deadline None (find (is_timer number) w.timers) answers in record { hand = ap hand_of same; waited = ap last_wait_of same; fault = ap fault_of_round same }
hand_moves w (step.SetEvery number deadline period) answers =
    let same = set_runs w deadline (Some period) (find (is_timer number) w.timers) answers in record { hand = ap hand_of same; waited = ap last_wait_of same; fault = ap fault_of_round same }
hand_moves w (step.End number) answers =
    let same = end_runs w (find (is_timer number) w.timers) answers in record { hand = ap hand_of same; waited = ap last_wait_of same; fault = ap fault_of_round same }
hand_moves w (step.Now moment) answers =
    let same = clock_runs w moment answers in record { hand = ap hand_of same; waited = ap last_wait_of same; fault = ap fault_of_round same }
hand_moves w (step.Begin given) answers = begin_follows w given answers
hand_moves w step.Wait answers = wait_follows w w.round answers refl
hand_moves w step.Handle answers = handle_follows w w.round answers refl
hand_moves w step.Finish answers = finish_follows w w.round answers refl
hand_moves w step.React answers =
    let same = react_runs w answers in record { hand = ap hand_of same; waited = ap last_wait_of same; fault = ap fault_of_round same }
hand_moves w _ answers = record { hand = refl; waited = refl; fault = refl }

pub hand_follows : (w : World) (s : Step) (answers : List PollerAnswer)
    → HandFollows w s answers (step_result w s answers).answer (step_result w s answers).world
unfolding step_result
hand_follows w s answers = let h = hand_moves w s answers in record { hand = h.hand; waited = h.waited; fault = h.fault }
