-- What the steps of the machine leave of the serials, the marks and the failed arms.
use Rattle.std.proofs.Common.{◌≡◌, ℕ, Bool, true, false, ◌||◌, List, [], ◌∷◌, find, Option, None, Some, is_some, refl, ap, ◌∙◌}
use Rattle.std.specs.Prelude.{nat_le, nat_lt, option_to_list, unwrap_or, length}
use Rattle.aio_base.specs.declared.names.Key.{Key}
use Rattle.aio_base.specs.declared.names.Waker.{Waker}
use Rattle.aio_base.specs.declared.names.Dir.{Dir}
use Rattle.aio_base.specs.declared.names.Event.{Event}
use Rattle.aio_base.specs.declared.steps.Step.{Step}
use Rattle.aio_base.specs.declared.steps.Step.TheVariants as step
use Rattle.aio_base.specs.World.{PollerAnswer, Mark, ListenerEntry, BrokenSource, TimerEntry, RoundState, World, directions_of, serial_of, key_of, poll_waiter, mark_of, is_empty_list, is_idle, is_broken, wanted}
use Rattle.aio_base.specs.Machine.{fails, next_answer, broken_world, armed_world, after_arm, pending, source_limit, add, is_fresh_since, is_waker, with_waiter, poll_source, new_listener, with_listening, step_listener, drop_listener, tick_timer, set_timer, end_timer, begin_round, wait_in, without_waiters, world_taken, rearmed, handle_source, handle_first, handle_in, finish_in, react, is_listener, is_timer, case_of}
use Rattle.aio_laws.proofs.steps.Frames.{either, either_world, react_any, tick_timers, set_timers, end_timers, wait_any}

pub record Aside : Type 0 where
  pub serials : ℕ
  pub marks : List Mark
  pub broken : List BrokenSource

abbrev pub aside : World → Aside
aside w = record { serials = w.serials; marks = w.marks; broken = w.broken }

-- but for what the steps of sources change
abbrev pub but_serials : Aside → Aside
but_serials a = record a { serials = 0 }

abbrev pub but_broken : Aside → Aside
but_broken a = record a { broken = [] }

-- ## Steps that are of no source

pub new_leaves : (w : World) (dir : Dir) (serial : Option ℕ) (answers : List PollerAnswer) → aside (new_listener w dir serial answers).world ≡ aside w
new_leaves w dir None answers = refl
new_leaves w dir (Some serial) answers = refl

pub drop_leaves : (w : World) (number : ℕ) (entry : Option ListenerEntry) (answers : List PollerAnswer) → aside (drop_listener w number entry answers).world ≡ aside w
drop_leaves w number None answers = refl
drop_leaves w number (Some entry) answers = refl

pub tick_leaves : (w : World) (waker : Waker) (entry : Option TimerEntry) (answers : List PollerAnswer) → aside (tick_timer w waker entry answers).world ≡ aside w
tick_leaves w waker entry answers = tick_timers (λ v. aside v ≡ aside w) w waker entry answers (λ timers registrations ids. refl)

pub set_leaves : (w : World) (deadline : ℕ) (period : Option ℕ) (entry : Option TimerEntry) (answers : List PollerAnswer)
    → aside (set_timer w deadline period entry answers).world ≡ aside w
set_leaves w deadline period entry answers = set_timers (λ v. aside v ≡ aside w) w deadline period entry answers (λ timers registrations ids. refl)

pub end_leaves : (w : World) (entry : Option TimerEntry) (answers : List PollerAnswer) → aside (end_timer w entry answers).world ≡ aside w
end_leaves w entry answers = end_timers (λ v. aside v ≡ aside w) w entry answers (λ timers registrations ids. refl)

pub begin_leaves : (w : World) (given : Option ℕ) (answers : List PollerAnswer) → aside (begin_round w given answers).world ≡ aside w
begin_leaves w given answers = either (λ o. aside o.world ≡ aside w) (is_some w.round) _ _ refl refl

pub wait_leaves : (w : World) (round : Option RoundState) (answers : List PollerAnswer) → aside (wait_in w round answers).world ≡ aside w
wait_leaves w round answers = wait_any (λ v. aside v ≡ aside w) w round answers (λ after armed. refl)

pub finish_leaves : (w : World) (round : Option RoundState) (answers : List PollerAnswer) → aside (finish_in w round answers).world ≡ aside w
finish_leaves w None answers = refl
finish_leaves w (Some round) answers = either (λ o. aside o.world ≡ aside w) (is_empty_list round.in_hand) _ _ refl refl

-- ## Sources are added and taken out

pub add_leaves : (w : World) (answers : List PollerAnswer) → but_serials (aside (add w answers).world) ≡ but_serials (aside w)
add_leaves w answers =
    either (λ o. but_serials (aside o.world) ≡ but_serials (aside w)) (nat_le source_limit (length w.live)) _ _ refl
    (either_world (λ v. but_serials (aside v) ≡ but_serials (aside w)) (fails (next_answer answers)) w _ refl refl)

-- ## Arming

pub arm_leaves : (w : World) (key serial : ℕ) (told : PollerAnswer) → but_broken (aside (after_arm w key serial told)) ≡ but_broken (aside w)
arm_leaves w key serial told =
    either_world (λ v. but_broken (aside v) ≡ but_broken (aside w)) (fails told) (broken_world w serial) (armed_world w key serial) refl refl

pub pending_leaves : (arms : Bool) (w : World) (key serial : ℕ) (wakes : List Waker) (answers : List PollerAnswer)
    → but_broken (aside (pending arms w key serial wakes answers).world) ≡ but_broken (aside w)
pending_leaves false w key serial wakes answers = refl
pending_leaves true w key serial wakes answers = arm_leaves w key serial (next_answer answers)

pub poll_serials : (w : World) (key : ℕ) (dir : Dir) (waker : Waker) (serial : Option ℕ) (answers : List PollerAnswer)
    → (poll_source w key dir waker serial answers).world.serials ≡ w.serials
poll_serials w key dir waker None answers = refl
poll_serials w key dir waker (Some serial) answers =
    let waiter = poll_waiter w.poll_waiters serial dir in
    either (λ o. o.world.serials ≡ w.serials) (is_fresh_since w serial dir (mark_of w.marks serial dir)) _ _ refl
    (either (λ o. o.world.serials ≡ w.serials) (is_waker waker waiter) _ _
    (ap (λ (a : Aside). a.serials) (pending_leaves (is_broken w serial) w key serial [] answers))
    (ap (λ (a : Aside). a.serials)
    (pending_leaves (is_idle w serial dir || is_broken w serial) (with_waiter w serial dir waker) key serial (option_to_list waiter) answers)))

pub step_leaves : (w : World) (waker : Waker) (entry : Option ListenerEntry) (answers : List PollerAnswer)
    → but_broken (aside (step_listener w waker entry answers).world) ≡ but_broken (aside w)
step_leaves w waker None answers = refl
step_leaves w waker (Some entry) answers =
    either (λ o. but_broken (aside o.world) ≡ but_broken (aside w)) (is_fresh_since w entry.serial entry.dir entry.position) _ _ refl
    (pending_leaves (is_idle w entry.serial entry.dir || is_broken w entry.serial) (record w { listeners = with_listening w entry waker })
    (unwrap_or (key_of w entry.serial) 0) entry.serial [] answers)

-- ## Events are handled

taken_leaves : (w : World) (serial begin : ℕ) (dirs : List Dir) → aside (world_taken w serial begin dirs) ≡ aside w
taken_leaves w serial begin [] = refl
taken_leaves w serial begin (dir ∷ dirs) = taken_leaves (without_waiters w serial begin dir) serial begin dirs

rearmed_leaves : (w : World) (round : RoundState) (key : Key) (serial : ℕ) (answers : List PollerAnswer)
    → but_broken (aside (rearmed w round key serial answers).world) ≡ but_broken (aside w)
rearmed_leaves w round key serial answers =
    let told = next_answer answers in
    let arm = arm_leaves w key.0 serial told in
    either (λ o. but_broken (aside o.world) ≡ but_broken (aside w)) (is_empty_list (wanted w serial)) _ _ refl
    (either_world (λ v. but_broken (aside v) ≡ but_broken (aside w)) (fails told) _ _ arm arm)

source_leaves : (w : World) (round : RoundState) (event : Event) (serial : Option ℕ) (answers : List PollerAnswer)
    → but_broken (aside (handle_source w round event serial answers).world) ≡ but_broken (aside w)
source_leaves w round event None answers = refl
source_leaves w round event (Some serial) answers =
    rearmed_leaves _ _ event.key serial answers ∙ ap but_broken (taken_leaves w serial round.begin (directions_of event.on))

first_leaves : (w : World) (round : RoundState) (events : List Event) (answers : List PollerAnswer)
    → but_broken (aside (handle_first w round events answers).world) ≡ but_broken (aside w)
first_leaves w round [] answers = refl
first_leaves w round (event ∷ events) answers = source_leaves w (record round { in_hand = events }) event (serial_of w event.key.0) answers

pub handle_leaves : (w : World) (round : Option RoundState) (answers : List PollerAnswer)
    → but_broken (aside (handle_in w round answers).world) ≡ but_broken (aside w)
handle_leaves w None answers = refl
handle_leaves w (Some round) answers = first_leaves w round round.in_hand answers

pub react_leaves : (w : World) (answers : List PollerAnswer) → but_broken (aside (react w None answers).world) ≡ but_broken (aside w)
react_leaves w answers =
    react_any (λ v. but_broken (aside v) ≡ but_broken (aside w)) w None answers refl (ap but_broken (begin_leaves w None answers))
    (λ v answers same. ap but_broken (wait_leaves v v.round answers) ∙ same) (λ v answers same. handle_leaves v v.round answers ∙ same)
    (λ v answers same. ap but_broken (finish_leaves v v.round answers) ∙ same)

-- ## A step

-- of what is told here, what a step has no part in
abbrev pub unchanged : Step → Aside → Aside
unchanged step.Add a = but_serials a
unchanged (step.Del key) a = record { serials = 0; marks = []; broken = [] }
unchanged (step.Poll key dir waker) a = record { serials = a.serials; marks = []; broken = [] }
unchanged (step.StepEar number waker) a = but_broken a
unchanged step.Handle a = but_broken a
unchanged step.React a = but_broken a
unchanged _ a = a

pub leaves_aside : (w : World) (s : Step) (answers : List PollerAnswer) → unchanged s (aside (case_of w s answers).world) ≡ unchanged s (aside w)
leaves_aside w step.Add answers = add_leaves w answers
leaves_aside w (step.Poll key dir waker) answers =
    ap (λ (n : ℕ). let a : Aside = record { serials = n; marks = []; broken = [] } in a) (poll_serials w key.0 dir waker (serial_of w key.0) answers)
leaves_aside w (step.New key dir) answers = new_leaves w dir (serial_of w key.0) answers
leaves_aside w (step.StepEar number waker) answers = step_leaves w waker (find (is_listener number) w.listeners) answers
leaves_aside w (step.DropEar number) answers = drop_leaves w number (find (is_listener number) w.listeners) answers
leaves_aside w (step.Tick number waker) answers = tick_leaves w waker (find (is_timer number) w.timers) answers
leaves_aside w (step.SetAt number deadline) answers = set_leaves w deadline None (find (is_timer number) w.timers) answers
leaves_aside w (step.SetEvery number deadline period) answers = set_leaves w deadline (Some period) (find (is_timer number) w.timers) answers
leaves_aside w (step.End number) answers = end_leaves w (find (is_timer number) w.timers) answers
leaves_aside w (step.Now moment) answers = either (λ o. aside o.world ≡ aside w) (nat_lt moment w.now) _ _ refl refl
leaves_aside w (step.Begin limit) answers = begin_leaves w limit answers
leaves_aside w step.Wait answers = wait_leaves w w.round answers
leaves_aside w step.Handle answers = handle_leaves w w.round answers
leaves_aside w step.Finish answers = finish_leaves w w.round answers
leaves_aside w step.React answers = react_leaves w answers
leaves_aside w _ answers = refl
