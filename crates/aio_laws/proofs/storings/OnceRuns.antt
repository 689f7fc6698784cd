-- Each storing of a waker is woken once: what stands of the storings stands after each step, and so after every run.
use Rattle.std.proofs.Common.{◌≡◌, ℕ, Bool, true, false, cond, List, [], ◌∷◌, ◌++◌, length, map, find, None, Some, option_to_list, refl, ap, ◌∙◌, sym, subst, arith, append_assoc, append-nil}
use Rattle.std.specs.Prelude.{nat_lt, nat_le}
use Rattle.std.proofs.lemmas.List.{map-append}
use Rattle.aio_base.specs.declared.names.Waker.{Waker}
use Rattle.aio_base.specs.declared.steps.Answer.TheVariants as answer
use Rattle.aio_base.specs.declared.steps.Step.{Step}
use Rattle.aio_base.specs.declared.steps.Step.TheVariants as step
use Rattle.aio_base.specs.World.{PollerAnswer, World, serial_of, opening}
use Rattle.aio_base.specs.Machine.{Outcome, fails, next_answer, add, is_listener, is_timer, set_clock, case_of, step_result, source_limit}
use Rattle.aio_base.specs.Runs.{PolledStep, outcome_of, world_of, wakes_of}
use Rattle.aio_laws.specs.Storings.{Place, OfPoll, OfListener, OfTimer, Stored, Storings, no_storings, wakers, step_storings, step_ended, storings_from, storings_of, Once}
use Rattle.aio_base.proofs.Membership.{none_is_in}
use Rattle.aio_laws.proofs.storings.Kept.{ended_kept}
use Rattle.aio_laws.proofs.storings.Holding.{Holding, Orders, holding_of, held, waker_at-held, Stands, Leaves, quiet_leaves}
use Rattle.aio_laws.proofs.storings.HeldPolls.{either_world, del_leaves, poll_leaves}
use Rattle.aio_laws.proofs.storings.HeldListeners.{new_leaves, step_leaves, drop_leaves}
use Rattle.aio_laws.proofs.storings.HeldTicks.{tick_leaves, set_leaves, end_leaves}
use Rattle.aio_laws.proofs.storings.HeldRounds.{begin_leaves, wait_leaves, handle_leaves, finish_leaves, react_leaves}

-- ## Steps that stored_at nothing

-- one of two outcomes
one_of : (woken : List (List Stored)) (test : Bool) (l : Storings) (x y : Outcome) → Leaves woken l x → Leaves woken l y → Leaves woken l (cond test x y)
one_of woken true l x y first second = first
one_of woken false l x y first second = second

add_leaves : (w : World) (woken : List (List Stored)) (l : Storings) (answers : List PollerAnswer) → Stands (holding_of w) [] woken l
    → Leaves woken l (add w answers)
add_leaves w woken l answers s =
    one_of woken (nat_le source_limit (length w.live)) l _ _ (quiet_leaves w woken l answer.Full answers s)
    (record { stands = subst (λ h. Stands h [] woken l) (sym (either_world (fails (next_answer answers)) w _ (holding_of w) refl refl)) s })

clock_leaves : (w : World) (woken : List (List Stored)) (l : Storings) (moment : ℕ) (answers : List PollerAnswer) → Stands (holding_of w) [] woken l
    → Leaves woken l (set_clock w moment answers)
clock_leaves w woken l moment answers s =
    one_of woken (nat_lt moment w.now) l _ _ (quiet_leaves w woken l (answer.Back w.now) answers s)
    (quiet_leaves (record w { now = moment }) woken l (answer.At moment) answers s)

-- ## Each step

case_leaves : (w : World) (woken : List (List Stored)) (l : Storings) (s : Step) (answers : List PollerAnswer) → Stands (holding_of w) [] woken l
    → Leaves woken (step_storings w s answers l) (case_of w s answers)
case_leaves w woken l step.Add answers x = add_leaves w woken l answers x
case_leaves w woken l (step.Del key) answers x = del_leaves w woken l key.0 (serial_of w key.0) answers x
case_leaves w woken l (step.Poll key dir waker) answers x = poll_leaves w woken l key.0 dir waker (serial_of w key.0) answers x
case_leaves w woken l (step.New key dir) answers x = new_leaves w woken l dir (serial_of w key.0) answers x
case_leaves w woken l (step.StepEar number waker) answers x = step_leaves w woken l number waker (find (is_listener number) w.listeners) answers refl x
case_leaves w woken l (step.DropEar number) answers x = drop_leaves w woken l number (find (is_listener number) w.listeners) answers refl x
case_leaves w woken l (step.Tick number waker) answers x = tick_leaves w woken l waker (find (is_timer number) w.timers) answers x
case_leaves w woken l (step.SetAt number deadline) answers x = set_leaves w woken l deadline None (find (is_timer number) w.timers) answers x
case_leaves w woken l (step.SetEvery number deadline period) answers x = set_leaves w woken l deadline (Some period) (find (is_timer number) w.timers) answers x
case_leaves w woken l (step.End number) answers x = end_leaves w woken l (find (is_timer number) w.timers) answers x
case_leaves w woken l (step.Now moment) answers x = clock_leaves w woken l moment answers x
case_leaves w woken l (step.Begin limit) answers x = begin_leaves w woken l limit answers x
case_leaves w woken l step.Wait answers x = wait_leaves w woken l answers x
case_leaves w woken l step.Handle answers x = handle_leaves w woken l answers x
case_leaves w woken l step.Finish answers x = finish_leaves w woken l answers x
case_leaves w woken l step.React answers x = react_leaves w woken l answers x
case_leaves w woken l _ answers x = record { stands = x }

-- ## A step ends

-- what stands between two steps: the steps so far woke these storings
abbrev pub Between : World → Storings → Type 0
Between w l = Stands (holding_of w) [] l.woken l

ended_stands : (h : Holding) (wakes : List Waker) (woken : List (List Stored)) (l : Storings) → Stands h wakes woken l
    → Stands h [] (step_ended l).woken (step_ended l)
ended_stands h wakes woken l s = record {
  kept = ended_kept (held h) l s.kept;
  orders = s.orders;
  taken_is = s.taken_is;
  waking_is = refl;
  woken_is = refl;
}

ended_wakes : (h : Holding) (wakes : List Waker) (woken : List (List Stored)) (l : Storings) → Stands h wakes woken l
    → map wakers (step_ended l).woken ≡ map wakers woken ++ wakes ∷ []
ended_wakes h wakes woken l s =
    map-append wakers l.woken (l.waking ∷ [])
    ∙ ap (λ (before : List (List Stored)). map wakers before ++ wakers l.waking ∷ []) s.woken_is
    ∙ ap (λ (now : List Waker). map wakers woken ++ now ∷ []) s.waking_is

-- the storings after one step of a run
abbrev pub after_step : World → PolledStep → Storings → Storings
after_step w s l = step_ended (step_storings w s.step s.answers l)

pub step_stands : (w : World) (s : PolledStep) (l : Storings) → Between w l → Between (outcome_of w s).world (after_step w s l)
unfolding step_result
step_stands w s l between =
    let o = case_of w s.step s.answers in
    let m = step_storings w s.step s.answers l in
    let y = case_leaves w l.woken l s.step s.answers between in
    ended_stands (holding_of o.world) o.wakes l.woken m y.stands

pub step_wakes : (w : World) (s : PolledStep) (l : Storings) → Between w l
    → map wakers (after_step w s l).woken ≡ map wakers l.woken ++ (outcome_of w s).wakes ∷ []
unfolding step_result
step_wakes w s l between =
    let o = case_of w s.step s.answers in
    let y = case_leaves w l.woken l s.step s.answers between in
    ended_wakes (holding_of o.world) o.wakes l.woken (step_storings w s.step s.answers l) y.stands

-- ## Runs

run_stands : (run : List PolledStep) (w : World) (l : Storings) → Between w l → Between (world_of w run) (storings_from w l run)
run_stands [] w l between = between
run_stands (s ∷ run) w l between = run_stands run (outcome_of w s).world (after_step w s l) (step_stands w s l between)

run_wakes : (run : List PolledStep) (w : World) (l : Storings) → Between w l
    → map wakers (storings_from w l run).woken ≡ map wakers l.woken ++ wakes_of w run
run_wakes [] w l between = sym (append-nil (map wakers l.woken))
run_wakes (s ∷ run) w l between =
    run_wakes run (outcome_of w s).world (after_step w s l) (step_stands w s l between)
    ∙ ap (λ (front : List (List Waker)). front ++ wakes_of (outcome_of w s).world run) (step_wakes w s l between)
    ∙ append_assoc (map wakers l.woken) ((outcome_of w s).wakes ∷ []) (wakes_of (outcome_of w s).world run)

nothing_held : (p : Place) → held (holding_of opening) p ≡ None
nothing_held (OfPoll serial dir) = refl
nothing_held (OfListener number) = refl
nothing_held (OfTimer id) = refl

pub opening_stands : Between opening no_storings
opening_stands = record {
  kept = record {
    each = λ n below. absurd (omega arith);
    no_other = λ n above. refl;
    stands = λ p. sym (ap option_to_list (nothing_held p));
  };
  orders = record {
    numbers_differ = tt;
    numbers_drawn = λ l among. none_is_in l among;
    ids_differ = tt;
    ids_drawn = λ r among. none_is_in r among;
  };
  taken_is = refl;
  waking_is = refl;
  woken_is = refl;
}

at_rest_from : (run : List PolledStep) (w : World) (l : Storings) → l.waking ≡ [] → (storings_from w l run).waking ≡ []
at_rest_from [] w l rests = rests
at_rest_from (s ∷ run) w l rests = at_rest_from run (outcome_of w s).world (step_ended (step_storings w s.step s.answers l)) refl

at_rest_after : (run : List PolledStep) → (storings_of opening run).waking ≡ []
at_rest_after run = at_rest_from run opening no_storings refl

pub run_once : (run : List PolledStep) → Once (world_of opening run) (wakes_of opening run) (storings_of opening run)
run_once run =
    let w = world_of opening run in
    let s = run_stands run opening no_storings opening_stands in
    record {
      each = s.kept.each;
      no_other = s.kept.no_other;
      stands = λ p. s.kept.stands p ∙ sym (ap option_to_list (waker_at-held w p));
      round = s.taken_is;
      steps = run_wakes run opening no_storings opening_stands;
      at_rest = at_rest_after run;
    }

-- the numbers and ids of the world differ, and were drawn
pub run_orders : (run : List PolledStep) → Orders (holding_of (world_of opening run))
run_orders run = (run_stands run opening no_storings opening_stands).orders
