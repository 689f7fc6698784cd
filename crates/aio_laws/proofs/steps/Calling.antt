-- The calls of a step are those that fit it, and without a call no interest changes.
use Rattle.std.proofs.Common.{◌≡◌, ◌↔◌, ◌≤◌, find, option_map, ℕ, Bool, true, false, not, cond, ◌||◌, ◌&&◌, ◌==◌, List, [], ◌∷◌, ◌++◌, length, Option, None, Some, is_some, option_to_list, refl, sym, ap, ◌∙◌, subst, inl, inr, ⊎_elim, append-nil}
use Rattle.std.specs.Prelude.{nat_le, nat_lt, unwrap_or}
use Rattle.std.specs.List.{Contains, list_any, filter}
use Rattle.std.proofs.lemmas.Bool.{cond_both, and_parts, eq-eqb, eqb-true}
use Rattle.std.proofs.lemmas.List.Elements.{Contains-append_left}
use Rattle.aio_base.specs.declared.names.Key.{Key}
use Rattle.aio_base.specs.declared.names.Waker.{Waker}
use Rattle.aio_base.specs.declared.names.Dir.{Dir}
use Rattle.aio_base.specs.declared.names.Event.{Event}
use Rattle.aio_base.specs.declared.outcomes.Which.{Which}
use Rattle.aio_base.specs.declared.outcomes.Which.TheVariants as which
use Rattle.aio_base.specs.declared.steps.Step.{Step}
use Rattle.aio_base.specs.declared.steps.Step.TheVariants as step
use Rattle.aio_base.specs.declared.steps.Answer.TheVariants as answer
use Rattle.aio_base.specs.World.{PollerAnswer, Succeeds, Gives, IsInterrupted, Fails, LiveSource, ListenerEntry, TimerEntry, ArmedDirection, RoundState, World, directions_of, serial_of, key_of, poll_waiter, mark_of, is_empty_list, is_idle, is_broken, wanted, set_armed, is_armed, clear_armed, same_dir}
use Rattle.aio_base.specs.Machine.{Outcome, fails, next_answer, later_answers, pending, source_limit, free_key, add, del_source, is_fresh_since, is_waker, with_waiter, poll_source, new_listener, with_listening, step_listener, drop_listener, unregistered, tick_timer, set_timer, end_timer, begin_round, wait_answered, wait_in, wait_round, world_taken, wakers_taken, rearmed, handle_source, handle_first, handle_in, handle_round, finish_in, finish_round, handle_each, hand_of, case_of, step_result}
use Rattle.aio_base.proofs.TimerCases.{tick_any, set_any}
use Rattle.aio_laws.specs.Succession.{events_given}
use Rattle.aio_laws.specs.Interests.{IsArmedIn, Nothing, SetsInterest, NoneOf, IsWaitedFor, arms_done, arms_behind, RoundArms, InterestsFollow}
use Rattle.aio_laws.specs.Calls.{OnlyArms, CallsFit, IsCleared, OnlyCleared, CallsFollow}
use Rattle.aio_base.proofs.Membership.{none_is_in, first_is_in, later_is_in, among_cases, filtered_is_in, filtered_passes, any_gives}
use Rattle.aio_laws.proofs.rounds.RoundLemmas.{in_hand_of, round_begun, waited_of, handled_of, ended_of, begun_in_hand}
use Rattle.aio_laws.proofs.rounds.RoundFaults.{begun_clean}
use Rattle.aio_laws.proofs.cover.Standing.{armed_stays}
use Rattle.aio_laws.proofs.steps.Interesting.{Sets, Rearms, taken_arms, add_sets, del_sets, poll_sets, listen_sets, handle_sets, each_leaves}
use Rattle.aio_laws.proofs.steps.Hearing.{case_heard, case_stays}
use Rattle.aio_laws.proofs.steps.Needing.{case_needs}
use Rattle.aio_laws.proofs.rounds.RoundEnds.{case_ends, round_waits}
use Rattle.aio_laws.proofs.steps.Frames.{either}

-- what an outcome calls fits a step, and leaves what is armed where it calls nothing
record Calls (w : World) (s : Step) (o : Outcome) : Type 0 where
  fit : CallsFit s o.answer o.calls
  silent : o.calls ≡ [] → o.world.armed ≡ w.armed

-- the calls of steps whose answer tells whether the poller failed
told : (failed : Bool) (key : Key) → CallsFit step.Add (cond failed answer.FaultAdd (answer.KeyIs key)) (which.Add ∷ [])
told true key = refl
told false key = refl

gone : (key : Key) (failed : Bool) → CallsFit (step.Del key) (cond failed answer.FaultRemove answer.Gone) (which.Remove ∷ [])
gone key true = refl
gone key false = refl

polled : (key : Key) (dir : Dir) (waker : Waker) (failed : Bool)
    → CallsFit (step.Poll key dir waker) (cond failed answer.FaultArm answer.Pending) (which.Arm ∷ [])
polled key dir waker true = refl
polled key dir waker false = inr refl

listened : (number : ℕ) (waker : Waker) (failed : Bool)
    → CallsFit (step.StepEar number waker) (cond failed answer.FaultArm answer.Pending) (which.Arm ∷ [])
listened number waker true = refl
listened number waker false = inr refl

handled : (key : Key) (failed : Bool) → CallsFit step.Handle (answer.Handled key failed) (which.Arm ∷ [])
handled key true = refl
handled key false = inr refl

-- ## Sources and listeners

add_calls : (w : World) (answers : List PollerAnswer) → Calls w step.Add (add w answers)
add_calls w answers =
    either (Calls w step.Add) (nat_le source_limit (length w.live)) _ _ (record { fit = refl; silent = λ none. refl })
    (record { fit = told (fails (next_answer answers)) (record { 0 = free_key w.live }); silent = λ none. absurd cc })

del_calls : (w : World) (key : Key) (found : Option ℕ) (answers : List PollerAnswer) → Calls w (step.Del key) (del_source w key.0 found answers)
del_calls w key None answers = record { fit = refl; silent = λ none. refl }
del_calls w key (Some serial) answers =
    either (Calls w (step.Del key)) (list_any (λ (l : ListenerEntry). l.serial == serial) w.listeners) _ _ (record { fit = refl; silent = λ none. refl })
    (record { fit = gone key (fails (next_answer answers)); silent = λ none. absurd cc })

poll_pending : (w v : World) (key : Key) (dir : Dir) (waker : Waker) (arms : Bool) (serial : ℕ) (wakes : List Waker) (answers : List PollerAnswer) → v.armed ≡ w.armed
    → Calls w (step.Poll key dir waker) (pending arms v key.0 serial wakes answers)
poll_pending w v key dir waker false serial wakes answers same = record { fit = inl refl; silent = λ none. same }
poll_pending w v key dir waker true serial wakes answers same =
    record { fit = polled key dir waker (fails (next_answer answers)); silent = λ none. absurd cc }

poll_calls : (w : World) (key : Key) (dir : Dir) (waker : Waker) (found : Option ℕ) (answers : List PollerAnswer)
    → Calls w (step.Poll key dir waker) (poll_source w key.0 dir waker found answers)
poll_calls w key dir waker None answers = record { fit = refl; silent = λ none. refl }
poll_calls w key dir waker (Some serial) answers =
    let waiter = poll_waiter w.poll_waiters serial dir in
    either (Calls w (step.Poll key dir waker)) (is_fresh_since w serial dir (mark_of w.marks serial dir)) _ _ (record { fit = refl; silent = λ none. refl })
    (either (Calls w (step.Poll key dir waker)) (is_waker waker waiter) _ _ (poll_pending w w key dir waker (is_broken w serial) serial [] answers refl)
    (poll_pending w (with_waiter w serial dir waker) key dir waker (is_idle w serial dir || is_broken w serial) serial (option_to_list waiter) answers refl))

new_calls : (w : World) (key : Key) (dir : Dir) (found : Option ℕ) (answers : List PollerAnswer) → Calls w (step.New key dir) (new_listener w dir found answers)
new_calls w key dir None answers = record { fit = refl; silent = λ none. refl }
new_calls w key dir (Some serial) answers = record { fit = refl; silent = λ none. refl }

listen_pending : (w v : World) (number : ℕ) (waker : Waker) (arms : Bool) (key serial : ℕ) (wakes : List Waker) (answers : List PollerAnswer) → v.armed ≡ w.armed
    → Calls w (step.StepEar number waker) (pending arms v key serial wakes answers)
listen_pending w v number waker false key serial wakes answers same = record { fit = inl refl; silent = λ none. same }
listen_pending w v number waker true key serial wakes answers same =
    record { fit = listened number waker (fails (next_answer answers)); silent = λ none. absurd cc }

listen_calls : (w : World) (number : ℕ) (waker : Waker) (found : Option ListenerEntry) (answers : List PollerAnswer)
    → Calls w (step.StepEar number waker) (step_listener w waker found answers)
listen_calls w number waker None answers = record { fit = refl; silent = λ none. refl }
listen_calls w number waker (Some entry) answers =
    either (Calls w (step.StepEar number waker)) (is_fresh_since w entry.serial entry.dir entry.position) _ _ (record { fit = refl; silent = λ none. refl })
    (listen_pending w (record w { listeners = with_listening w entry waker }) number waker (is_idle w entry.serial entry.dir || is_broken w entry.serial)
    (unwrap_or (key_of w entry.serial) 0) entry.serial [] answers refl)

drop_calls : (w : World) (number : ℕ) (found : Option ListenerEntry) (answers : List PollerAnswer) → Calls w (step.DropEar number) (drop_listener w number found answers)
drop_calls w number None answers = record { fit = refl; silent = λ none. refl }
drop_calls w number (Some entry) answers = record { fit = refl; silent = λ none. refl }

-- ## Timers

unregistered_arms : (w : World) (id : Option ℕ) → (unregistered w id).armed ≡ w.armed
unregistered_arms w None = refl
unregistered_arms w (Some id) = refl

tick_calls : (w : World) (number : ℕ) (waker : Waker) (found : Option TimerEntry) (answers : List PollerAnswer)
    → Calls w (step.Tick number waker) (tick_timer w waker found answers)
tick_calls w number waker None answers = record { fit = refl; silent = λ none. refl }
tick_calls w number waker (Some entry) answers =
    tick_any (Calls w (step.Tick number waker)) w waker entry answers (λ timers registrations ids. record { fit = refl; silent = λ none. refl })
    (λ deadline timers registrations ids. record { fit = refl; silent = λ none. refl })

set_calls : (w : World) (s : Step) (deadline : ℕ) (period : Option ℕ) (found : Option TimerEntry) (answers : List PollerAnswer)
    → CallsFit s answer.NoTimer [] → CallsFit s answer.Set [] → Calls w s (set_timer w deadline period found answers)
set_calls w s deadline period None answers none set = record { fit = none; silent = λ n. refl }
set_calls w s deadline period (Some entry) answers none set =
    set_any (Calls w s) w deadline period entry answers (λ timers registrations ids. record { fit = set; silent = λ n. refl })

end_calls : (w : World) (number : ℕ) (found : Option TimerEntry) (answers : List PollerAnswer) → Calls w (step.End number) (end_timer w found answers)
end_calls w number None answers = record { fit = refl; silent = λ none. refl }
end_calls w number (Some entry) answers = record { fit = refl; silent = λ none. unregistered_arms w entry.id }

-- ## Rounds

pub answered_calls : (w : World) (round : RoundState) (told : PollerAnswer) (rest : List PollerAnswer) → (wait_answered w round told rest).calls ≡ which.Wait ∷ []
answered_calls w round Succeeds rest = refl
answered_calls w round told rest = refl

answered : (w : World) (round : RoundState) (told : PollerAnswer) (rest : List PollerAnswer) → Calls w step.Wait (wait_answered w round told rest)
answered w round Succeeds rest = record { fit = refl; silent = λ none. absurd cc }
answered w round told rest = record { fit = refl; silent = λ none. absurd cc }

wait_calls : (w : World) (round : Option RoundState) (answers : List PollerAnswer) → Calls w step.Wait (wait_in w round answers)
wait_calls w None answers = record { fit = refl; silent = λ none. refl }
wait_calls w (Some round) answers =
    either (Calls w step.Wait) (is_empty_list round.in_hand) _ _ (answered w round (next_answer answers) (later_answers answers))
    (record { fit = refl; silent = λ none. refl })

none_arms : OnlyArms []
none_arms c among = none_is_in c among

one_arms : OnlyArms (which.Arm ∷ [])
one_arms c among = ⊎_elim (λ (same : which.Arm ≡ c). sym same) (λ (later : Contains [] c). none_is_in c later) (among_cases which.Arm [] c among)

-- an event is handled: no call, or one arm
record Handles (w : World) (o : Outcome) : Type 0 where
  calls : Calls w step.Handle o
  arms : OnlyArms o.calls

rearmed_calls : (w v : World) (round : RoundState) (key : Key) (serial : ℕ) (answers : List PollerAnswer) → v.armed ≡ w.armed
    → Handles w (rearmed v round key serial answers)
rearmed_calls w v round key serial answers same =
    either (Handles w) (is_empty_list (wanted v serial)) _ _
    (record { calls = record { fit = inl refl; silent = λ none. same }; arms = none_arms })
    (record { calls = record { fit = handled key (fails (next_answer answers)); silent = λ none. absurd cc }; arms = one_arms })

source_calls : (w : World) (round : RoundState) (event : Event) (found : Option ℕ) (answers : List PollerAnswer)
    → Handles w (handle_source w round event found answers)
source_calls w round event None answers = record { calls = record { fit = inl refl; silent = λ none. refl }; arms = none_arms }
source_calls w round event (Some serial) answers =
    let taken = record round { taken = round.taken ++ wakers_taken w serial round.begin (directions_of event.on) } in
    rearmed_calls w (record (world_taken w serial round.begin (directions_of event.on)) { round = Some taken }) taken event.key serial answers
    (taken_arms (directions_of event.on) w serial round.begin)

first_calls : (w : World) (round : RoundState) (hand : List Event) (answers : List PollerAnswer) → Handles w (handle_first w round hand answers)
first_calls w round [] answers = record { calls = record { fit = refl; silent = λ none. refl }; arms = none_arms }
first_calls w round (event ∷ events) answers = source_calls w (record round { in_hand = events }) event (serial_of w event.key.0) answers

handle_calls : (w : World) (round : Option RoundState) (answers : List PollerAnswer) → Handles w (handle_in w round answers)
handle_calls w None answers = record { calls = record { fit = refl; silent = λ none. refl }; arms = none_arms }
handle_calls w (Some round) answers = first_calls w round round.in_hand answers

all_of : (xs ys : List Which) → OnlyArms xs → OnlyArms ys → OnlyArms (xs ++ ys)
all_of [] ys first second = second
all_of (x ∷ xs) ys first second = λ c among.
    ⊎_elim (λ (same : x ≡ c). first c (Contains-append_left (x ∷ []) xs c (subst (Contains (x ∷ [])) same (first_is_in x []))))
    (λ (later : Contains (xs ++ ys) c). all_of xs ys (λ d there. first d (later_is_in x xs d there)) second c later) (among_cases x (xs ++ ys) c among)

each_calls : (events : List Event) (w : World) (answers : List PollerAnswer) → OnlyArms (handle_each events w answers).calls
each_calls [] w answers = none_arms
each_calls (event ∷ events) w answers =
    let first = handle_round w answers in
    all_of first.calls (handle_each events first.world first.left).calls (handle_calls w w.round answers).arms (each_calls events first.world first.left)

finish_calls : (w : World) (round : Option RoundState) (answers : List PollerAnswer) → Calls w step.Finish (finish_in w round answers)
finish_calls w None answers = record { fit = refl; silent = λ none. refl }
finish_calls w (Some round) answers =
    either (Calls w step.Finish) (is_empty_list round.in_hand) _ _ (record { fit = refl; silent = λ none. refl }) (record { fit = refl; silent = λ none. refl })

some_is : (m n : List Event) → Some m ≡ Some n → m ≡ n
some_is m n same = cc

-- a round with an empty hand waits
waits_once : (w : World) (round : Option RoundState) (answers : List PollerAnswer) → in_hand_of round ≡ Some [] → (wait_in w round answers).calls ≡ which.Wait ∷ []
waits_once w None answers at = absurd cc
waits_once w (Some round) answers at =
    let empty : is_empty_list round.in_hand ≡ true = ap is_empty_list (some_is round.in_hand [] at) in
    cond_both (is_empty_list round.in_hand) _ _ (λ (o : Outcome). o.calls ≡ which.Wait ∷ [])
    (λ yes. answered_calls w round (next_answer answers) (later_answers answers)) (λ no. absurd (let wrong : true ≡ false = sym empty ∙ no in cc))

react_or : (w : World) (runs : Bool) (x y : Outcome) → Calls w step.React x → (runs ≡ false → Calls w step.React y) → Calls w step.React (cond runs x y)
react_or w true x y first second = first
react_or w false x y first second = second refl

waited_arms : (waited handled : List Which) → waited ≡ which.Wait ∷ [] → waited ++ handled ≡ which.Wait ∷ handled
waited_arms waited handled is = ap (λ (calls : List Which). calls ++ handled) is

not_silent : (calls arms : List Which) → calls ≡ which.Wait ∷ arms → calls ≡ [] → ⊥
not_silent calls arms is none = let wrong : which.Wait ∷ arms ≡ [] = sym is ∙ none in cc

react_calls : (w : World) (answers : List PollerAnswer) → Calls w step.React (case_of w step.React answers)
react_calls w answers =
    react_or w (is_some w.round) _ _ (record { fit = refl; silent = λ none. refl })
    (λ none.
    let begun = begin_round w None answers in
    let waited = wait_round begun.world begun.left in
    let hand = hand_of waited.world.round in
    let handled = handle_each hand waited.world waited.left in
    let is = waited_arms waited.calls handled.calls (waits_once begun.world begun.world.round begun.left (round_begun w answers none).hand) in
    record { fit = (handled.calls, is, each_calls hand waited.world waited.left); silent = λ silent. absurd (not_silent (waited.calls ++ handled.calls) handled.calls is silent) })

-- ## A step

case_calls : (w : World) (s : Step) (answers : List PollerAnswer) → Calls w s (case_of w s answers)
case_calls w step.Add answers = add_calls w answers
case_calls w (step.Del key) answers = del_calls w key _ answers
case_calls w (step.Poll key dir waker) answers = poll_calls w key dir waker _ answers
case_calls w (step.New key dir) answers = new_calls w key dir _ answers
case_calls w (step.StepEar number waker) answers = listen_calls w number waker _ answers
case_calls w (step.DropEar number) answers = drop_calls w number _ answers
case_calls w (step.Tick number waker) answers = tick_calls w number waker _ answers
case_calls w (step.SetAt number deadline) answers = set_calls w (step.SetAt number deadline) deadline None _ answers refl refl
case_calls w (step.SetEvery number deadline period) answers = set_calls w (step.SetEvery number deadline period) deadline (Some period) _ answers refl refl
case_calls w (step.End number) answers = end_calls w number _ answers
case_calls w (step.Now moment) answers =
    either (Calls w (step.Now moment)) (nat_lt moment w.now) _ _ (record { fit = refl; silent = λ none. refl }) (record { fit = refl; silent = λ none. refl })
case_calls w (step.Begin limit) answers =
    either (Calls w (step.Begin limit)) (is_some w.round) _ _ (record { fit = refl; silent = λ none. refl }) (record { fit = refl; silent = λ none. refl })
case_calls w step.Wait answers = wait_calls w w.round answers
case_calls w step.Handle answers = (handle_calls w w.round answers).calls
case_calls w step.Finish answers = finish_calls w w.round answers
case_calls w step.React answers = react_calls w answers
case_calls w _ answers = record { fit = refl; silent = λ none. refl }

-- ## What a wait clears

is_not : (test : Bool) → (test ≡ true → ⊥) → test ≡ false
is_not true wrong = absurd (wrong refl)
is_not false wrong = refl

-- an armed direction that is left was armed, and no event is of its key
cleared_from : (events : List Event) (armed : List ArmedDirection) (a : ArmedDirection) → Contains (clear_armed armed events) a
    → Contains armed a × ((e : Event) → Contains events e → a.key ≡ e.key.0 → ⊥)
cleared_from [] armed a among = (among, λ e none. none_is_in e none)
cleared_from (event ∷ events) armed a among =
    let rest = cleared_from events (set_armed armed event.key.0 []) a among in
    let other = λ (x : ArmedDirection). not (x.key == event.key.0) in
    let kept : Contains (filter other armed) a = subst (λ (xs : List ArmedDirection). Contains xs a) (append-nil (filter other armed)) rest.0 in
    let apart : not (a.key == event.key.0) ≡ true = filtered_passes other armed a kept in (
      filtered_is_in other armed a kept,
      λ e here same. ⊎_elim
          (λ (first : event ≡ e). let at : (a.key == event.key.0) ≡ true = eq-eqb a.key event.key.0 (same ∙ ap (λ (x : Event). x.key.0) (sym first)) in
          absurd (let wrong : not true ≡ true = ap not (sym at) ∙ apart in cc))
          (λ (later : Contains events e). rest.1 e later same) (among_cases event events e here),
    )

cleared_all : (events : List Event) (armed : List ArmedDirection) (event : Event) (dir : Dir) → Contains events event
    → is_armed (clear_armed armed events) event.key.0 dir ≡ false
cleared_all events armed event dir among =
    is_not (is_armed (clear_armed armed events) event.key.0 dir)
    (λ armed_there.
    let one = any_gives (λ (a : ArmedDirection). (a.key == event.key.0) && same_dir a.dir dir) (clear_armed armed events) armed_there in
    let at = eqb-true one.0.key event.key.0 (and_parts (one.0.key == event.key.0) (same_dir one.0.dir dir) one.2).0 in
    (cleared_from events armed one.0 one.1).1 event among at)

answered_clears : (w : World) (round : RoundState) (told : PollerAnswer) (rest answers : List PollerAnswer) → next_answer answers ≡ told
    → IsCleared step.Wait answers (wait_answered w round told rest).answer (wait_answered w round told rest).world.armed
answered_clears w round Succeeds rest answers is =
    λ event dir among. none_is_in event (subst (λ (a : PollerAnswer). Contains (events_given a) event) is among)
answered_clears w round (Gives events) rest answers is =
    λ event dir among. cleared_all events w.armed event dir (subst (λ (a : PollerAnswer). Contains (events_given a) event) is among)
answered_clears w round IsInterrupted rest answers is = tt
answered_clears w round Fails rest answers is = tt

wait_clears : (w : World) (round : Option RoundState) (answers : List PollerAnswer)
    → IsCleared step.Wait answers (wait_in w round answers).answer (wait_in w round answers).world.armed
wait_clears w None answers = tt
wait_clears w (Some round) answers =
    either (λ o. IsCleared step.Wait answers o.answer o.world.armed) (is_empty_list round.in_hand) _ _ (answered_clears w round (next_answer answers) (later_answers answers) answers refl) tt

case_clears : (w : World) (s : Step) (answers : List PollerAnswer) → IsCleared s answers (case_of w s answers).answer (case_of w s answers).world.armed
case_clears w step.Wait answers = wait_clears w w.round answers
case_clears w _ answers = tt

-- ## A whole round that makes no arm

none_in_parts : (xs ys : List Which) → xs ++ ys ≡ [] → (xs ≡ []) × (ys ≡ [])
none_in_parts [] ys none = (refl, none)
none_in_parts (x ∷ xs) ys none = absurd cc

each_silent : (events : List Event) (w : World) (answers : List PollerAnswer) → (handle_each events w answers).calls ≡ []
    → (handle_each events w answers).world.armed ≡ w.armed
each_silent [] w answers none = refl
each_silent (event ∷ events) w answers none =
    let first = handle_round w answers in
    let parts = none_in_parts first.calls (handle_each events first.world first.left).calls none in
    each_silent events first.world first.left parts.1 ∙ (handle_calls w w.round answers).calls.silent parts.0

answered_arms : (w : World) (round : RoundState) (told : PollerAnswer) (rest : List PollerAnswer)
    → (wait_answered w round told rest).world.armed ≡ clear_armed w.armed (events_given told)
answered_arms w round Succeeds rest = refl
answered_arms w round told rest = refl

waits_arms : (w : World) (round : Option RoundState) (answers : List PollerAnswer) → in_hand_of round ≡ Some []
    → (wait_in w round answers).world.armed ≡ clear_armed w.armed (events_given (next_answer answers))
waits_arms w None answers at = absurd cc
waits_arms w (Some round) answers at =
    let empty : is_empty_list round.in_hand ≡ true = ap is_empty_list (some_is round.in_hand [] at) in
    cond_both (is_empty_list round.in_hand) _ _ (λ (o : Outcome). o.world.armed ≡ clear_armed w.armed (events_given (next_answer answers)))
    (λ yes. answered_arms w round (next_answer answers) (later_answers answers)) (λ no. absurd (let wrong : true ≡ false = sym empty ∙ no in cc))

begun_arms : (w : World) (answers : List PollerAnswer) → (begin_round w None answers).world.armed ≡ w.armed
begun_arms w answers = cond_both (is_some w.round) _ _ (λ (o : Outcome). o.world.armed ≡ w.armed) (λ runs. refl) (λ none. refl)

-- what a round that begins and waits leaves armed
pub round_clears : (w : World) (answers : List PollerAnswer) → is_some w.round ≡ false
    → (waited_of w answers).world.armed ≡ clear_armed w.armed (events_given (next_answer answers))
round_clears w answers none =
    let begun = begin_round w None answers in
    let start = round_begun w answers none in
    waits_arms begun.world begun.world.round begun.left start.hand
    ∙ ap (λ (armed : List ArmedDirection). clear_armed armed (events_given (next_answer begun.left))) (begun_arms w answers)
    ∙ ap (λ (a : List PollerAnswer). clear_armed w.armed (events_given (next_answer a))) start.left

pub finish_arms : (w : World) (round : Option RoundState) (answers : List PollerAnswer) → (finish_in w round answers).world.armed ≡ w.armed
finish_arms w None answers = refl
finish_arms w (Some round) answers = cond_both (is_empty_list round.in_hand) _ _ (λ (o : Outcome). o.world.armed ≡ w.armed) (λ ends. refl) (λ some. refl)

unarmed_or : (answers : List PollerAnswer) (armed : List ArmedDirection) (runs : Bool) (x y : Outcome)
    → OnlyCleared step.React answers x.answer x.calls armed x.world.armed
    → (runs ≡ false → OnlyCleared step.React answers y.answer y.calls armed y.world.armed)
    → OnlyCleared step.React answers (cond runs x y).answer (cond runs x y).calls armed (cond runs x y).world.armed
unarmed_or answers armed true x y first second = first
unarmed_or answers armed false x y first second = second refl

no_more : (waited arms : List Which) → waited ≡ which.Wait ∷ [] → waited ++ arms ≡ which.Wait ∷ [] → arms ≡ []
no_more waited arms is alone = let same : which.Wait ∷ arms ≡ which.Wait ∷ [] = sym (waited_arms waited arms is) ∙ alone in cc

react_unarmed : (w : World) (answers : List PollerAnswer)
    → OnlyCleared step.React answers (case_of w step.React answers).answer (case_of w step.React answers).calls w.armed (case_of w step.React answers).world.armed
react_unarmed w answers =
    unarmed_or answers w.armed (is_some w.round) _ _ tt
    (λ none alone.
    let begun = begin_round w None answers in
    let waited = wait_round begun.world begun.left in
    let hand = hand_of waited.world.round in
    let handled = handle_each hand waited.world waited.left in
    let start = round_begun w answers none in
    let once = waits_once begun.world begun.world.round begun.left start.hand in
    finish_arms handled.world handled.world.round handled.left ∙ each_silent hand waited.world waited.left (no_more waited.calls handled.calls once alone)
    ∙ round_clears w answers none)

case_unarmed : (w : World) (s : Step) (answers : List PollerAnswer)
    → OnlyCleared s answers (case_of w s answers).answer (case_of w s answers).calls w.armed (case_of w s answers).world.armed
case_unarmed w step.React answers = react_unarmed w answers
case_unarmed w _ answers = tt

-- ## What is armed

cleared_stays : (events : List Event) (armed : List ArmedDirection) (k : ℕ) (dir : Dir) → IsArmedIn armed k dir → NoneOf events k → IsArmedIn (clear_armed armed events) k dir
cleared_stays [] armed k dir arms none = arms
cleared_stays (event ∷ events) armed k dir arms none =
    cleared_stays events (set_armed armed event.key.0 []) k dir
    (armed_stays armed event.key.0 [] k dir (λ same. none event (first_is_in event events) (sym same)) arms) (λ e later. none e (later_is_in event events e later))

-- what is armed after events cleared their keys
pub cleared_is : (events : List Event) (armed after : List ArmedDirection) → after ≡ clear_armed armed events → (k : ℕ) (dir : Dir)
    → IsArmedIn after k dir ↔ (IsArmedIn armed k dir × NoneOf events k)
cleared_is events armed after is k dir = (
  λ arms. let from = cleared_from events armed (record { key = k; dir = dir }) (subst (λ xs. IsArmedIn xs k dir) is arms) in
      (from.0, λ e here same. from.1 e here (sym same)),
  λ stays. subst (λ xs. IsArmedIn xs k dir) (sym is) (cleared_stays events armed k dir stays.0 stays.1),
)

interrupted_arms : (w : World) (round : RoundState) (told : PollerAnswer) (rest : List PollerAnswer) → (wait_answered w round told rest).answer ≡ answer.Interrupted
    → (wait_answered w round told rest).world.armed ≡ w.armed
interrupted_arms w round Succeeds rest told = refl
interrupted_arms w round (Gives events) rest told = absurd cc
interrupted_arms w round IsInterrupted rest told = refl
interrupted_arms w round Fails rest told = refl

wait_interrupted : (w : World) (round : Option RoundState) (answers : List PollerAnswer) → (wait_in w round answers).answer ≡ answer.Interrupted
    → (wait_in w round answers).world.armed ≡ w.armed
wait_interrupted w None answers told = absurd cc
wait_interrupted w (Some round) answers told =
    cond_both (is_empty_list round.in_hand) _ _ (λ (o : Outcome). o.answer ≡ answer.Interrupted → o.world.armed ≡ w.armed)
    (λ empty. interrupted_arms w round (next_answer answers) (later_answers answers)) (λ some told. absurd cc) told

wait_given : (w : World) (round : Option RoundState) (answers : List PollerAnswer) (count : ℕ) → (wait_in w round answers).answer ≡ answer.Given count
    → (wait_in w round answers).world.armed ≡ clear_armed w.armed (events_given (next_answer answers))
wait_given w None answers count told = absurd cc
wait_given w (Some round) answers count told =
    cond_both (is_empty_list round.in_hand) _ _
    (λ (o : Outcome). o.answer ≡ answer.Given count → o.world.armed ≡ clear_armed w.armed (events_given (next_answer answers)))
    (λ empty told. answered_arms w round (next_answer answers) (later_answers answers)) (λ some told. absurd cc) told

-- a world with the same waiters
abbrev pub SameWaiters : World → World → Type 0
SameWaiters w v = (n : ℕ) (dir : Dir) → is_idle v n dir ≡ is_idle w n dir

answered_waiters : (w : World) (round : RoundState) (told : PollerAnswer) (rest : List PollerAnswer) → SameWaiters w (wait_answered w round told rest).world
answered_waiters w round Succeeds rest n dir = refl
answered_waiters w round told rest n dir = refl

pub wait_waiters : (w : World) (round : Option RoundState) (answers : List PollerAnswer) → SameWaiters w (wait_in w round answers).world
wait_waiters w None answers n dir = refl
wait_waiters w (Some round) answers n dir =
    cond_both (is_empty_list round.in_hand) _ _ (λ (o : Outcome). is_idle o.world n dir ≡ is_idle w n dir)
    (λ empty. answered_waiters w round (next_answer answers) (later_answers answers) n dir) (λ some. refl)

pub begin_waiters : (w : World) (answers : List PollerAnswer) → SameWaiters w (begin_round w None answers).world
begin_waiters w answers n dir = cond_both (is_some w.round) _ _ (λ (o : Outcome). is_idle o.world n dir ≡ is_idle w n dir) (λ runs. refl) (λ none. refl)

no_round : (round : Option RoundState) → round ≡ None → is_some round ≡ false
no_round round none = ap is_some none

begun_round : (w : World) (answers : List PollerAnswer) → is_some w.round ≡ false
    → RoundArms w answers ((waited_of w answers).calls ++ (handled_of w answers).calls) (ended_of w answers).world
begun_round w answers none =
    let begun = begin_round w None answers in
    let waited = wait_round begun.world begun.left in
    let hand = hand_of waited.world.round in
    let handled = handle_each hand waited.world waited.left in
    let ended = finish_round handled.world handled.left in
    let events = events_given (next_answer answers) in
    let h = begun_in_hand w answers none in
    let waits = round_waits begun.world begun.world.round begun.left h.start.hand (begun_clean w None answers none) in
    let all = each_leaves hand waited.world waited.left in
    let ends : ended.world.armed ≡ handled.world.armed = finish_arms handled.world handled.world.round handled.left in
    let count : arms_done handled.calls waited.left ≡ arms_behind (waited.calls ++ handled.calls) answers =
    ap (arms_done handled.calls) (waits.left ∙ ap later_answers h.start.left)
    ∙ ap (λ (calls : List Which). arms_behind (calls ++ handled.calls) answers) (sym waits.calls) in
    let cleared : (k : ℕ) (dir : Dir) → IsArmedIn waited.world.armed k dir ↔ (IsArmedIn w.armed k dir × NoneOf events k) = cleared_is events w.armed waited.world.armed (round_clears w answers none) in
    record {
      keys = all.keys;
      asked = subst (λ n. length all.keys ≤ n) count all.asked;
      others = λ k dir other.
          let o = all.others k dir other in (
            λ arms. (cleared k dir).0 (o.0 (subst (λ xs. IsArmedIn xs k dir) ends arms)),
            λ stays. subst (λ xs. IsArmedIn xs k dir) (sym ends) (o.1 ((cleared k dir).1 stays)),
          );
      waited = λ k dir arms.
          ⊎_elim (λ (still : IsArmedIn waited.world.armed k dir). inl ((cleared k dir).0 still))
          (λ (anew : IsWaitedFor waited.world k dir).
          inr (
            anew.0,
            sym (ap (λ live. option_map (λ (s : LiveSource). s.serial) (find (λ (s : LiveSource). s.key == k) live)) h.live) ∙ anew.1,
            sym (wait_waiters begun.world begun.world.round begun.left anew.0 dir ∙ begin_waiters w answers anew.0 dir) ∙ anew.2,
          )) (all.from k dir (subst (λ xs. IsArmedIn xs k dir) ends arms));
    }

react_round : (w : World) (answers : List PollerAnswer) → w.round ≡ None → RoundArms w answers (case_of w step.React answers).calls (case_of w step.React answers).world
react_round w answers none =
    cond_both (is_some w.round) _ _ (λ (o : Outcome). RoundArms w answers o.calls o.world)
    (λ runs. absurd (let wrong : true ≡ false = sym runs ∙ no_round w.round none in cc)) (λ begins. begun_round w answers begins)

case_interests : (w : World) (s : Step) (answers : List PollerAnswer)
    → InterestsFollow w s answers (case_of w s answers).answer (case_of w s answers).calls (case_of w s answers).world
case_interests w s answers = record {
  added = λ key is.
      subst (λ (x : Step). (case_of w x answers).answer ≡ answer.KeyIs key → SetsInterest w.armed (case_of w x answers).world.armed key.0 Nothing) (sym is)
      (add_sets w answers key);
  removed = λ key is.
      subst (λ (x : Step). (case_of w x answers).answer ≡ answer.Gone → SetsInterest w.armed (case_of w x answers).world.armed key.0 Nothing) (sym is)
      (del_sets w key.0 (serial_of w key.0) answers);
  polled = λ key dir waker serial is lives.
      subst (λ (x : Step). Sets w.armed key.0 serial (case_of w x answers)) (sym is)
      (subst (λ found. Sets w.armed key.0 serial (poll_source w key.0 dir waker found answers)) (sym lives) (poll_sets w key.0 dir waker serial answers));
  listened = λ number key waker l is found at.
      subst (λ (x : Step). Sets w.armed key l.serial (case_of w x answers)) (sym is)
      (subst (λ entry. Sets w.armed key l.serial (step_listener w waker entry answers)) (sym found) (listen_sets w waker l answers key at));
  handled = λ key serial is lives.
      subst (λ (x : Step). Rearms w.armed key serial (case_of w x answers)) (sym is) (handle_sets w w.round answers key serial lives);
  given = λ count is.
      subst (λ (x : Step). (case_of w x answers).answer ≡ answer.Given count → (k : ℕ) (dir : Dir)
      → IsArmedIn (case_of w x answers).world.armed k dir ↔ (IsArmedIn w.armed k dir × NoneOf (events_given (next_answer answers)) k)) (sym is)
      (λ told. cleared_is (events_given (next_answer answers)) w.armed (wait_in w w.round answers).world.armed (wait_given w w.round answers count told));
  interrupted = λ is.
      subst (λ (x : Step). (case_of w x answers).answer ≡ answer.Interrupted → (case_of w x answers).world.armed ≡ w.armed) (sym is)
      (wait_interrupted w w.round answers);
  round = λ is none.
      subst (λ (x : Step). RoundArms w answers (case_of w x answers).calls (case_of w x answers).world) (sym is) (react_round w answers none);
}

pub calls_follow : (w : World) (s : Step) (answers : List PollerAnswer)
    → CallsFollow w s answers (step_result w s answers).answer (step_result w s answers).calls (step_result w s answers).world
unfolding step_result
calls_follow w s answers =
    let c = case_calls w s answers in
    let i = case_interests w s answers in
    record {
      fit = c.fit;
      silent = c.silent;
      cleared = case_clears w s answers;
      needed = (let n = case_needs w s answers in record { polled = n.polled; listened = n.listened; handled = n.handled; dropped = n.dropped });
      heard = case_heard w s answers;
      stays = case_stays w s answers;
      ended = case_ends w s answers;
      unarmed = case_unarmed w s answers;
      interests = record {
        added = i.added;
        removed = i.removed;
        polled = i.polled;
        listened = i.listened;
        handled = i.handled;
        given = i.given;
        interrupted = i.interrupted;
        round = λ is none. let r = i.round is none in record { keys = r.keys; asked = r.asked; others = r.others; waited = r.waited };
      };
    }
