-- The listeners that were polled stand in the order of their first polls, after each step and so after every run.
use Rattle.std.proofs.Common.{◌≡◌, ℕ, ◌+◌, ◌<◌, Bool, true, false, not, cond, ◌||◌, ◌==◌, if◌then◌else◌, List, [], ◌∷◌, ◌++◌, length, map, find, Option, None, Some, is_some, refl, ap, ◌∙◌, sym, subst, ⊎_elim, arith}
use Rattle.std.specs.Prelude.{⊤, nat_lt, nat_le, option_to_list, unwrap_or}
use Rattle.std.specs.List.{AllPairs, Contains, filter, list_any}
use Rattle.std.proofs.lemmas.Bool.{eqb-true}
use Rattle.std.proofs.lemmas.List.Elements.{Contains-push_cases}
use Rattle.std.proofs.lemmas.List.Kept.{AllPairs-cons}
use Rattle.aio_base.specs.declared.names.Key.{Key}
use Rattle.aio_base.specs.declared.names.Waker.{Waker}
use Rattle.aio_base.specs.declared.names.Dir.{Dir}
use Rattle.aio_base.specs.declared.names.Event.{Event}
use Rattle.aio_base.specs.declared.steps.Step.{Step}
use Rattle.aio_base.specs.declared.steps.Step.TheVariants as step
use Rattle.aio_base.specs.World.{PollerAnswer, ListenerEntry, RoundState, World, opening, directions_of, is_of, serial_of, key_of, poll_waiter, mark_of, is_empty_list, is_idle, wanted, is_broken}
use Rattle.aio_base.specs.Machine.{Outcome, fails, next_answer, after_arm, pending, source_limit, add, del_source, is_fresh_since, is_waker, with_waiter, poll_source, new_listener, is_listener, without_listener, with_listening, step_listener, drop_listener, is_timer, set_clock, begin_round, wait_in, without_waiters, world_taken, rearmed, handle_source, handle_first, handle_in, finish_in, react, case_of, step_result}
use Rattle.aio_laws.specs.FirstPolls.{IsPolledBefore, InPollOrder}
use Rattle.aio_base.specs.Runs.{PolledStep, outcome_of, world_of}
use Rattle.aio_laws.specs.Storings.{Storings, no_storings}
use Rattle.aio_laws.proofs.runs.Apart.{Apart, same_element}
use Rattle.aio_laws.proofs.steps.Frames.{either, either_world, react_any, tick_timers, set_timers, end_timers, wait_any}
use Rattle.aio_base.proofs.Membership.{none_is_in, first_is_in, later_is_in, each_in, filtered_is_in, mapped_from, found_is_in}
use Rattle.aio_laws.proofs.storings.OnceRuns.{Between, after_step, step_stands, opening_stands}

-- ## Lists of listeners

-- each listener that was polled was so before those behind it
abbrev Rises : List ListenerEntry → Type 0
Rises [] = ⊤
Rises (l ∷ ls) = ((m : ListenerEntry) → Contains ls m → IsPolledBefore l m) × Rises ls

rises_pairs : (ls : List ListenerEntry) → Rises ls → AllPairs IsPolledBefore ls
rises_pairs [] rises = λ i j d before within. absurd (omega arith)
rises_pairs (l ∷ ls) rises = AllPairs-cons IsPolledBefore l ls (each_in (IsPolledBefore l) ls rises.0) (rises_pairs ls rises.1)

filtered_step : (here : Bool) (l : ListenerEntry) (ls : List ListenerEntry) → ((m : ListenerEntry) → Contains ls m → IsPolledBefore l m) → Rises ls
    → Rises (cond here (l ∷ ls) ls)
filtered_step true l ls first rest = (first, rest)
filtered_step false l ls first rest = rest

filtered_rises : (test : ListenerEntry → Bool) (ls : List ListenerEntry) → Rises ls → Rises (filter test ls)
filtered_rises test [] rises = rises
filtered_rises test (l ∷ ls) rises =
    filtered_step (test l) l (filter test ls) (λ m among. rises.0 m (filtered_is_in test ls m among)) (filtered_rises test ls rises.1)

mapped_rises : (f : ListenerEntry → ListenerEntry) → ((l : ListenerEntry) → (f l).position ≡ l.position) → (ls : List ListenerEntry) → Rises ls
    → Rises (map f ls)
mapped_rises f same [] rises = rises
mapped_rises f same (l ∷ ls) rises = (
  λ m among p q first later.
      let image = mapped_from f ls m among in
      rises.0 image.0 image.1 p q (sym (same l) ∙ first)
      (sym (same image.0) ∙ ap (λ (l : ListenerEntry). l.position) image.2 ∙ later),
  mapped_rises f same ls rises.1,
)

pushed_rises : (ls : List ListenerEntry) (l : ListenerEntry) → Rises ls → ((m : ListenerEntry) → Contains ls m → IsPolledBefore m l) → Rises (ls ++ l ∷ [])
pushed_rises [] l rises new = (λ m among. none_is_in m among, rises)
pushed_rises (k ∷ ls) l rises new = (
  λ m among.
      ⊎_elim
      (λ (old : Contains ls m). rises.0 m old)
      (λ (same : l ≡ m). subst (IsPolledBefore k) same (new k (first_is_in k ls)))
      (Contains-push_cases ls l m among),
  pushed_rises ls l rises.1 (λ m among. new m (later_is_in k ls m among)),
)

-- listeners in the order of their first polls, all of them before a position
record Ranked (ls : List ListenerEntry) (bound : ℕ) : Type 0 where
  rising : Rises ls
  past : (l : ListenerEntry) → Contains ls l → (p : ℕ) → l.position ≡ Some p → p < bound
  unpolled : (l : ListenerEntry) → Contains ls l → l.position ≡ None → l.waker ≡ None

later_ranked : (ls : List ListenerEntry) (bound : ℕ) → Ranked ls bound → Ranked ls (bound + 1)
later_ranked ls bound r = record {
  rising = r.rising;
  past = λ l among p at. let before = r.past l among p at in omega arith;
  unpolled = r.unpolled;
}

filtered_ranked : (test : ListenerEntry → Bool) (ls : List ListenerEntry) (bound : ℕ) → Ranked ls bound → Ranked (filter test ls) bound
filtered_ranked test ls bound r = record {
  rising = filtered_rises test ls r.rising;
  past = λ l among. r.past l (filtered_is_in test ls l among);
  unpolled = λ l among. r.unpolled l (filtered_is_in test ls l among);
}

mapped_ranked : (f : ListenerEntry → ListenerEntry) (ls : List ListenerEntry) (bound : ℕ) → ((l : ListenerEntry) → (f l).position ≡ l.position)
    → ((l : ListenerEntry) → Contains ls l → l.position ≡ None → l.waker ≡ None → (f l).waker ≡ None) → Ranked ls bound → Ranked (map f ls) bound
mapped_ranked f ls bound same silent r = record {
  rising = mapped_rises f same ls r.rising;
  past = λ l among p at.
      let image = mapped_from f ls l among in
      r.past image.0 image.1 p (sym (same image.0) ∙ ap (λ (l : ListenerEntry). l.position) image.2 ∙ at);
  unpolled = λ l among none.
      let image = mapped_from f ls l among in
      let never : image.0.position ≡ None = sym (same image.0) ∙ ap (λ (l : ListenerEntry). l.position) image.2 ∙ none in
      sym (ap (λ (l : ListenerEntry). l.waker) image.2) ∙ silent image.0 image.1 never (r.unpolled image.0 image.1 never);
}

pushed_ranked : (ls : List ListenerEntry) (l : ListenerEntry) (bound : ℕ) → ((m : ListenerEntry) → Contains ls m → IsPolledBefore m l)
    → ((p : ℕ) → l.position ≡ Some p → p < bound) → (l.position ≡ None → l.waker ≡ None) → Ranked ls bound → Ranked (ls ++ l ∷ []) bound
pushed_ranked ls l bound last past silent r = record {
  rising = pushed_rises ls l r.rising last;
  past = λ m among.
      ⊎_elim (λ (old : Contains ls m). r.past m old)
      (λ (same : l ≡ m). λ (p : ℕ) (at : m.position ≡ Some p). past p (ap (λ (l : ListenerEntry). l.position) same ∙ at)) (Contains-push_cases ls l m among);
  unpolled = λ m among.
      ⊎_elim (λ (old : Contains ls m). r.unpolled m old)
      (λ (same : l ≡ m). λ (none : m.position ≡ None).
      sym (ap (λ (l : ListenerEntry). l.waker) same) ∙ silent (ap (λ (l : ListenerEntry). l.position) same ∙ none)) (Contains-push_cases ls l m among);
}

-- what a step, or a section of a round, leaves: its own position may be among the listeners'
record Leaves (o : Outcome) : Type 0 where
  stands : Ranked o.world.listeners (o.world.pos + 1)

abbrev Within : World → Type 0
Within w = Ranked w.listeners (w.pos + 1)

-- ## Sources

arm_within : (w : World) (key serial : ℕ) (told : PollerAnswer) → Within w → Within (after_arm w key serial told)
arm_within w key serial told r = either_world Within (fails told) _ _ r r

pending_leaves : (arms : Bool) (w : World) (key serial : ℕ) (wakes : List Waker) (answers : List PollerAnswer) → Within w
    → Leaves (pending arms w key serial wakes answers)
pending_leaves false w key serial wakes answers r = record { stands = r }
pending_leaves true w key serial wakes answers r = record { stands = arm_within w key serial (next_answer answers) r }

add_leaves : (w : World) (answers : List PollerAnswer) → Within w → Leaves (add w answers)
add_leaves w answers r =
    either Leaves (nat_le source_limit (length w.live)) _ _ (record { stands = r }) (record { stands = either_world Within (fails (next_answer answers)) w _ r r })

del_leaves : (w : World) (key : ℕ) (serial : Option ℕ) (answers : List PollerAnswer) → Within w → Leaves (del_source w key serial answers)
del_leaves w key None answers r = record { stands = r }
del_leaves w key (Some serial) answers r =
    either Leaves (list_any (λ (l : ListenerEntry). l.serial == serial) w.listeners) _ _ (record { stands = r }) (record { stands = r })

poll_leaves : (w : World) (key : ℕ) (dir : Dir) (waker : Waker) (serial : Option ℕ) (answers : List PollerAnswer) → Within w
    → Leaves (poll_source w key dir waker serial answers)
poll_leaves w key dir waker None answers r = record { stands = r }
poll_leaves w key dir waker (Some serial) answers r =
    let waiter = poll_waiter w.poll_waiters serial dir in
    either Leaves (is_fresh_since w serial dir (mark_of w.marks serial dir)) _ _ (record { stands = r })
    (either Leaves (is_waker waker waiter) _ _ (pending_leaves (is_broken w serial) w key serial [] answers r)
    (pending_leaves (is_idle w serial dir || is_broken w serial) (with_waiter w serial dir waker) key serial (option_to_list waiter) answers r))

-- ## Listeners

new_leaves : (w : World) (dir : Dir) (serial : Option ℕ) (answers : List PollerAnswer) → Within w → Leaves (new_listener w dir serial answers)
new_leaves w dir None answers r = record { stands = r }
new_leaves w dir (Some serial) answers r =
    let new : ListenerEntry = record { number = w.listeners_drawn + 1; serial = serial; dir = dir; position = None; waker = None } in
    record { stands = pushed_ranked w.listeners new (w.pos + 1) (λ m among p q first later. absurd cc) (λ p at. absurd cc) (λ none. refl) r }

again_position : (waker : Waker) (l : ListenerEntry) (here : Bool) → (let m : ListenerEntry = cond here (record l { waker = Some waker }) l in m.position) ≡ l.position
again_position waker l true = refl
again_position waker l false = refl

-- a listener that was polled before is not one that never was
again_silent : (w : World) (entry : ListenerEntry) (waker : Waker) → Apart (λ (l : ListenerEntry). l.number) w.listeners → Contains w.listeners entry
    → is_some entry.position ≡ true → (l : ListenerEntry) → Contains w.listeners l → l.position ≡ None → l.waker ≡ None → (here : Bool)
    → (l.number == entry.number) ≡ here → (let m : ListenerEntry = cond here (record l { waker = Some waker }) l in m.waker) ≡ None
again_silent w entry waker apart there polled l among none silent true same =
    let is = same_element (λ (l : ListenerEntry). l.number) w.listeners l entry apart among there (eqb-true l.number entry.number same) in
    let wrong : is_some entry.position ≡ false = ap (λ (l : ListenerEntry). is_some l.position) (sym is) ∙ ap is_some none in
    let both : true ≡ false = sym polled ∙ wrong in absurd cc
again_silent w entry waker apart there polled l among none silent false other = silent

some_is : (m n : ℕ) → Some m ≡ Some n → m ≡ n
some_is m n same = cc

first_ranked : (w : World) (entry : ListenerEntry) (waker : Waker) → Ranked w.listeners w.pos
    → Ranked (without_listener w.listeners entry.number ++ record entry { position = Some w.pos; waker = Some waker } ∷ []) (w.pos + 1)
first_ranked w entry waker r =
    let others = filtered_ranked (λ l. not (is_listener entry.number l)) w.listeners w.pos r in
    pushed_ranked (without_listener w.listeners entry.number) (record entry { position = Some w.pos; waker = Some waker }) (w.pos + 1)
    (λ m among p q first later. let before = others.past m among p first in let at = some_is w.pos q later in omega arith)
    (λ p at. let is = some_is w.pos p at in omega arith) (λ none. absurd cc) (later_ranked _ w.pos others)

either_ranked : (test : Bool) (x y : List ListenerEntry) (bound : ℕ) → (test ≡ true → Ranked x bound) → Ranked y bound → Ranked (cond test x y) bound
either_ranked true x y bound first second = first refl
either_ranked false x y bound first second = second

listening_ranked : (w : World) (entry : ListenerEntry) (waker : Waker) → Apart (λ (l : ListenerEntry). l.number) w.listeners → Contains w.listeners entry
    → Ranked w.listeners w.pos → Ranked (with_listening w entry waker) (w.pos + 1)
listening_ranked w entry waker apart there r =
    either_ranked (is_some entry.position) _ _ (w.pos + 1)
    (λ polled. mapped_ranked (λ (l : ListenerEntry). if is_listener entry.number l then record l { waker = Some waker } else l) w.listeners (w.pos + 1)
    (λ l. again_position waker l (l.number == entry.number))
    (λ l among none silent. again_silent w entry waker apart there polled l among none silent (l.number == entry.number) refl)
    (later_ranked w.listeners w.pos r))
    (first_ranked w entry waker r)

step_leaves : (w : World) (number : ℕ) (waker : Waker) (entry : Option ListenerEntry) (answers : List PollerAnswer)
    → find (is_listener number) w.listeners ≡ entry → Apart (λ (l : ListenerEntry). l.number) w.listeners → Ranked w.listeners w.pos
    → Leaves (step_listener w waker entry answers)
step_leaves w number waker None answers found apart r = record { stands = later_ranked w.listeners w.pos r }
step_leaves w number waker (Some entry) answers found apart r =
    either Leaves (is_fresh_since w entry.serial entry.dir entry.position) _ _ (record { stands = later_ranked w.listeners w.pos r })
    (pending_leaves (is_idle w entry.serial entry.dir || is_broken w entry.serial) (record w { listeners = with_listening w entry waker })
    (unwrap_or (key_of w entry.serial) 0) entry.serial [] answers
    (listening_ranked w entry waker apart (found_is_in (is_listener number) w.listeners entry found).0 r))

drop_leaves : (w : World) (number : ℕ) (entry : Option ListenerEntry) (answers : List PollerAnswer) → Within w
    → Leaves (drop_listener w number entry answers)
drop_leaves w number None answers r = record { stands = r }
drop_leaves w number (Some entry) answers r =
    record { stands = filtered_ranked (λ l. not (is_listener number l)) w.listeners (w.pos + 1) r }

-- ## The clock

clock_leaves : (w : World) (moment : ℕ) (answers : List PollerAnswer) → Within w → Leaves (set_clock w moment answers)
clock_leaves w moment answers r = either Leaves (nat_lt moment w.now) _ _ (record { stands = r }) (record { stands = r })

-- ## Rounds

begin_leaves : (w : World) (given : Option ℕ) (answers : List PollerAnswer) → Within w → Leaves (begin_round w given answers)
begin_leaves w given answers r = either Leaves (is_some w.round) _ _ (record { stands = r }) (record { stands = r })

wait_leaves : (w : World) (round : Option RoundState) (answers : List PollerAnswer) → Within w → Leaves (wait_in w round answers)
wait_leaves w round answers r = record { stands = wait_any Within w round answers (λ after armed. r) }

emptied_position : (l : ListenerEntry) (here : Bool) → (let m : ListenerEntry = cond here (record l { waker = None }) l in m.position) ≡ l.position
emptied_position l true = refl
emptied_position l false = refl

emptied_silent : (l : ListenerEntry) (here : Bool) → l.waker ≡ None → (let m : ListenerEntry = cond here (record l { waker = None }) l in m.waker) ≡ None
emptied_silent l true silent = refl
emptied_silent l false silent = silent

taken_within : (w : World) (serial begin : ℕ) (dirs : List Dir) → Within w → Within (world_taken w serial begin dirs)
taken_within w serial begin [] r = r
taken_within w serial begin (dir ∷ dirs) r =
    taken_within (without_waiters w serial begin dir) serial begin dirs
    (mapped_ranked (λ (l : ListenerEntry). if is_of serial dir l.serial l.dir then record l { waker = None } else l) w.listeners (w.pos + 1)
    (λ l. emptied_position l (is_of serial dir l.serial l.dir)) (λ l among none silent. emptied_silent l (is_of serial dir l.serial l.dir) silent) r)

rearmed_leaves : (w : World) (round : RoundState) (key : Key) (serial : ℕ) (answers : List PollerAnswer) → Within w
    → Leaves (rearmed w round key serial answers)
rearmed_leaves w round key serial answers r =
    let arm = arm_within w key.0 serial (next_answer answers) r in
    either Leaves (is_empty_list (wanted w serial)) _ _ (record { stands = r })
    (record { stands = either_world Within (fails (next_answer answers)) _ (after_arm w key.0 serial (next_answer answers)) arm arm })

source_leaves : (w : World) (round : RoundState) (event : Event) (serial : Option ℕ) (answers : List PollerAnswer) → Within w
    → Leaves (handle_source w round event serial answers)
source_leaves w round event None answers r = record { stands = r }
source_leaves w round event (Some serial) answers r =
    rearmed_leaves _ _ event.key serial answers (taken_within w serial round.begin (directions_of event.on) r)

first_leaves : (w : World) (round : RoundState) (events : List Event) (answers : List PollerAnswer) → Within w
    → Leaves (handle_first w round events answers)
first_leaves w round [] answers r = record { stands = r }
first_leaves w round (event ∷ events) answers r = source_leaves w _ event (serial_of w event.key.0) answers r

handle_leaves : (w : World) (round : Option RoundState) (answers : List PollerAnswer) → Within w → Leaves (handle_in w round answers)
handle_leaves w None answers r = record { stands = r }
handle_leaves w (Some round) answers r = first_leaves w round round.in_hand answers r

finish_leaves : (w : World) (round : Option RoundState) (answers : List PollerAnswer) → Within w → Leaves (finish_in w round answers)
finish_leaves w None answers r = record { stands = r }
finish_leaves w (Some round) answers r = either Leaves (is_empty_list round.in_hand) _ _ (record { stands = r }) (record { stands = r })

react_leaves : (w : World) (given : Option ℕ) (answers : List PollerAnswer) → Within w → Leaves (react w given answers)
react_leaves w given answers r = record {
  stands = react_any Within w given answers r (begin_leaves w given answers r).stands (λ v answers r. (wait_leaves v v.round answers r).stands)
      (λ v answers r. (handle_leaves v v.round answers r).stands) (λ v answers r. (finish_leaves v v.round answers r).stands);
}

-- ## Steps and runs

case_leaves : (w : World) (s : Step) (answers : List PollerAnswer) → Apart (λ (l : ListenerEntry). l.number) w.listeners → Ranked w.listeners w.pos → Within w
    → Leaves (case_of w s answers)
case_leaves w step.Add answers apart x r = add_leaves w answers r
case_leaves w (step.Del key) answers apart x r = del_leaves w key.0 (serial_of w key.0) answers r
case_leaves w (step.Poll key dir waker) answers apart x r = poll_leaves w key.0 dir waker (serial_of w key.0) answers r
case_leaves w (step.New key dir) answers apart x r = new_leaves w dir (serial_of w key.0) answers r
case_leaves w (step.StepEar number waker) answers apart x r = step_leaves w number waker (find (is_listener number) w.listeners) answers refl apart x
case_leaves w (step.DropEar number) answers apart x r = drop_leaves w number (find (is_listener number) w.listeners) answers r
case_leaves w (step.Tick number waker) answers apart x r = record { stands = tick_timers Within w waker (find (is_timer number) w.timers) answers (λ timers registrations ids. r) }
case_leaves w (step.SetAt number deadline) answers apart x r = record { stands = set_timers Within w deadline None (find (is_timer number) w.timers) answers (λ timers registrations ids. r) }
case_leaves w (step.SetEvery number deadline period) answers apart x r =
    record { stands = set_timers Within w deadline (Some period) (find (is_timer number) w.timers) answers (λ timers registrations ids. r) }
case_leaves w (step.End number) answers apart x r = record { stands = end_timers Within w (find (is_timer number) w.timers) answers (λ timers registrations ids. r) }
case_leaves w (step.Now moment) answers apart x r = clock_leaves w moment answers r
case_leaves w (step.Begin limit) answers apart x r = begin_leaves w limit answers r
case_leaves w step.Wait answers apart x r = wait_leaves w w.round answers r
case_leaves w step.Handle answers apart x r = handle_leaves w w.round answers r
case_leaves w step.Finish answers apart x r = finish_leaves w w.round answers r
case_leaves w step.React answers apart x r = react_leaves w None answers r
case_leaves w _ answers apart x r = record { stands = r }

step_ranked : (w : World) (s : PolledStep) → Apart (λ (l : ListenerEntry). l.number) w.listeners → Ranked w.listeners w.pos
    → Ranked (outcome_of w s).world.listeners (outcome_of w s).world.pos
unfolding step_result
step_ranked w s apart r = (case_leaves w s.step s.answers apart r (later_ranked w.listeners w.pos r)).stands

run_ranked : (run : List PolledStep) (w : World) (l : Storings) → Between w l → Ranked w.listeners w.pos
    → Ranked (world_of w run).listeners (world_of w run).pos
run_ranked [] w l between r = r
run_ranked (s ∷ run) w l between r =
    run_ranked run (outcome_of w s).world (after_step w s l) (step_stands w s l between) (step_ranked w s between.orders.numbers_differ r)

pub run_polls_in_order : (run : List PolledStep) → InPollOrder (world_of opening run)
run_polls_in_order run =
    let w = world_of opening run in
    let none : Ranked opening.listeners opening.pos =
    record { rising = tt; past = λ l among. none_is_in l among; unpolled = λ l among. none_is_in l among } in
    let r = run_ranked run opening no_storings opening_stands none in
    record {
      rising = rises_pairs w.listeners r.rising;
      past = each_in (λ (l : ListenerEntry). (p : ℕ) → l.position ≡ Some p → p < w.pos) w.listeners r.past;
      unpolled = each_in (λ (l : ListenerEntry). l.position ≡ None → l.waker ≡ None) w.listeners r.unpolled;
    }
