-- Which registrations a step leaves that is not a timer's own: those that are not due where it makes a pass, and all others as they were.
use Rattle.std.proofs.Common.{◌≡◌, ℕ, Bool, true, false, not, cond, ◌&&◌, ◌||◌, ◌==◌, List, [], find, length, Option, None, Some, is_some, option_to_list, unwrap_or, refl, ap, ◌∙◌, sym, ⊎_elim}
use Rattle.std.specs.Prelude.{nat_lt, nat_le}
use Rattle.std.specs.List.{list_any}
use Rattle.std.proofs.lemmas.Bool.{cases_Bool, cond-true, cond-false}
use Rattle.aio_base.specs.declared.names.Waker.{Waker}
use Rattle.aio_base.specs.declared.names.Dir.{Dir}
use Rattle.aio_base.specs.declared.steps.Step.{Step}
use Rattle.aio_base.specs.declared.steps.Step.TheVariants as step
use Rattle.aio_base.specs.World.{PollerAnswer, ListenerEntry, Registration, RoundState, World, serial_of, key_of, poll_waiter, mark_of, is_empty_list, is_idle, is_broken}
use Rattle.aio_base.specs.Machine.{Outcome, fails, next_answer, pending, source_limit, add, del_source, is_fresh_since, is_waker, with_waiter, poll_source, new_listener, is_listener, with_listening, step_listener, drop_listener, gave_none, is_zero, ends_with_pass, finish_in, react, step_result}
use Rattle.aio_base.specs.Timers.{after_pass}
use Rattle.aio_laws.specs.Between.{is_of_timer, RegistrationsFollow}
use Rattle.aio_laws.proofs.rounds.WaitedOut.{makes_pass, pass_is_made, made_pass_is}
use Rattle.aio_laws.proofs.timers.PassLemmas.{Timed, timed, Keeps, either_keeps, either_world, arm_keeps, wait_keeps, handle_keeps, react_passes}
use Rattle.aio_laws.proofs.steps.Frames.{either}

-- the outcome has these registrations
abbrev Has : List Registration → Outcome → Type 0
Has rs o = o.world.registrations ≡ rs

-- where the first outcome is that of a refusal
refused_or : (fewer rs : List Registration) (test : Bool) (x y : Outcome) → Has rs x → Has fewer y → Has (cond (not test) fewer rs) (cond test x y)
refused_or fewer rs true x y first second = first
refused_or fewer rs false x y first second = second

-- ## Sources and listeners change neither clock nor timers

pending_keeps : (arms : Bool) (w : World) (key serial : ℕ) (wakes : List Waker) (answers : List PollerAnswer)
    → Keeps (timed w) (pending arms w key serial wakes answers)
pending_keeps false w key serial wakes answers = refl
pending_keeps true w key serial wakes answers = arm_keeps w key serial (next_answer answers)

pub add_keeps : (w : World) (answers : List PollerAnswer) → Keeps (timed w) (add w answers)
add_keeps w answers =
    either_keeps (timed w) (nat_le source_limit (length w.live)) _ _ refl (either_world (timed w) (fails (next_answer answers)) _ _ refl refl)

pub del_keeps : (w : World) (key : ℕ) (serial : Option ℕ) (answers : List PollerAnswer) → Keeps (timed w) (del_source w key serial answers)
del_keeps w key None answers = refl
del_keeps w key (Some serial) answers = either_keeps (timed w) (list_any (λ (l : ListenerEntry). l.serial == serial) w.listeners) _ _ refl refl

pub poll_keeps : (w : World) (key : ℕ) (dir : Dir) (waker : Waker) (serial : Option ℕ) (answers : List PollerAnswer)
    → Keeps (timed w) (poll_source w key dir waker serial answers)
poll_keeps w key dir waker None answers = refl
poll_keeps w key dir waker (Some serial) answers =
    let waiter = poll_waiter w.poll_waiters serial dir in
    either_keeps (timed w) (is_fresh_since w serial dir (mark_of w.marks serial dir)) _ _ refl
    (either_keeps (timed w) (is_waker waker waiter) _ _ (pending_keeps (is_broken w serial) w key serial [] answers)
    (pending_keeps (is_idle w serial dir || is_broken w serial) (with_waiter w serial dir waker) key serial (option_to_list waiter) answers))

pub new_keeps : (w : World) (dir : Dir) (serial : Option ℕ) (answers : List PollerAnswer) → Keeps (timed w) (new_listener w dir serial answers)
new_keeps w dir None answers = refl
new_keeps w dir (Some serial) answers = refl

pub step_keeps : (w : World) (waker : Waker) (entry : Option ListenerEntry) (answers : List PollerAnswer) → Keeps (timed w) (step_listener w waker entry answers)
step_keeps w waker None answers = refl
step_keeps w waker (Some entry) answers =
    either_keeps (timed w) (is_fresh_since w entry.serial entry.dir entry.position) _ _ refl
    (pending_keeps (is_idle w entry.serial entry.dir || is_broken w entry.serial) (record w { listeners = with_listening w entry waker })
    (unwrap_or (key_of w entry.serial) 0) entry.serial [] answers)

pub drop_keeps : (w : World) (number : ℕ) (entry : Option ListenerEntry) (answers : List PollerAnswer) → Keeps (timed w) (drop_listener w number entry answers)
drop_keeps w number None answers = refl
drop_keeps w number (Some entry) answers = refl

-- ## Rounds

finish_step : (w : World) (empty second : Bool) (x y : Outcome) → Has (cond second (after_pass w.now w.registrations) w.registrations) x → Has w.registrations y
    → Has (cond (empty && second) (after_pass w.now w.registrations) w.registrations) (cond empty x y)
finish_step w true second x y first refused = first
finish_step w false second x y first refused = refused

finish_has : (w : World) (round : Option RoundState) (answers : List PollerAnswer)
    → Has (cond (ends_with_pass round) (after_pass w.now w.registrations) w.registrations) (finish_in w round answers)
finish_has w None answers = refl
finish_has w (Some round) answers = finish_step w (is_empty_list round.in_hand) (gave_none round.last_wait && not (is_zero round.limit)) _ _ refl refl

runs_not : (round : Option RoundState) → is_some round ≡ false → round ≡ None
runs_not None none = refl
runs_not (Some round) none = absurd cc

react_has : (w : World) (answers : List PollerAnswer)
    → Has (cond (not (is_some w.round)) (after_pass w.now w.registrations) w.registrations) (react w None answers)
react_has w answers =
    ⊎_elim
    (λ (runs : is_some w.round ≡ true).
    ap (λ (o : Outcome). o.world.registrations) (cond-true (is_some w.round) _ _ runs)
    ∙ sym (cond-false (not (is_some w.round)) (after_pass w.now w.registrations) w.registrations (ap not runs)))
    (λ (none : is_some w.round ≡ false).
    react_passes w None answers (runs_not w.round none)
    ∙ sym (cond-true (not (is_some w.round)) (after_pass w.now w.registrations) w.registrations (ap not none)))
    (cases_Bool (is_some w.round))

-- ## A step

pub step_registers : (w : World) (s : Step) (answers : List PollerAnswer) → is_of_timer s ≡ false
    → (step_result w s answers).world.registrations ≡ cond (makes_pass w s) (after_pass w.now w.registrations) w.registrations
unfolding step_result
step_registers w step.Add answers other = ap (λ (t : Timed). t.registrations) (add_keeps w answers)
step_registers w (step.Del key) answers other = ap (λ (t : Timed). t.registrations) (del_keeps w key.0 (serial_of w key.0) answers)
step_registers w (step.Poll key dir waker) answers other = ap (λ (t : Timed). t.registrations) (poll_keeps w key.0 dir waker (serial_of w key.0) answers)
step_registers w (step.New key dir) answers other = ap (λ (t : Timed). t.registrations) (new_keeps w dir (serial_of w key.0) answers)
step_registers w (step.StepEar number waker) answers other = ap (λ (t : Timed). t.registrations) (step_keeps w waker (find (is_listener number) w.listeners) answers)
step_registers w (step.DropEar number) answers other = ap (λ (t : Timed). t.registrations) (drop_keeps w number (find (is_listener number) w.listeners) answers)
step_registers w (step.Tick number waker) answers other = absurd cc
step_registers w (step.SetAt number deadline) answers other = absurd cc
step_registers w (step.SetEvery number deadline period) answers other = absurd cc
step_registers w (step.End number) answers other = absurd cc
step_registers w (step.Now moment) answers other = either (Has w.registrations) (nat_lt moment w.now) _ _ refl refl
step_registers w (step.Begin limit) answers other = refused_or (after_pass w.now w.registrations) w.registrations (is_some w.round) _ _ refl refl
step_registers w step.Wait answers other = ap (λ (t : Timed). t.registrations) (wait_keeps w w.round answers)
step_registers w step.Handle answers other = ap (λ (t : Timed). t.registrations) (handle_keeps w w.round answers)
step_registers w step.Finish answers other = finish_has w w.round answers
step_registers w step.React answers other = react_has w answers
step_registers w _ answers other = refl

pub step_leaves_registered : (w : World) (s : Step) (answers : List PollerAnswer) → is_of_timer s ≡ false → RegistrationsFollow w s (step_result w s answers).world
step_leaves_registered w s answers other =
    let leaves = step_registers w s answers other in
    record {
      pass = λ passes. leaves ∙ cond-true (makes_pass w s) (after_pass w.now w.registrations) w.registrations (pass_is_made w s passes);
      none = λ quiet.
          ⊎_elim
          (λ (passes : makes_pass w s ≡ true). absurd (quiet (made_pass_is w s passes)))
          (λ (none : makes_pass w s ≡ false). leaves ∙ cond-false (makes_pass w s) (after_pass w.now w.registrations) w.registrations none)
          (cases_Bool (makes_pass w s));
    }
