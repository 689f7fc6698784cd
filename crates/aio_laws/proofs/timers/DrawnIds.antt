-- A step draws no id of a registration, or the next one, under which it registers a timer.
use Rattle.std.proofs.Common.{◌≡◌, ℕ, ◌+◌, List, find, Option, None, Some, is_some, refl, ap, ◌∙◌, inl, inr}
use Rattle.std.specs.Prelude.{nat_lt}
use Rattle.std.proofs.lemmas.List.Elements.{Contains-push}
use Rattle.aio_base.specs.declared.names.Waker.{Waker}
use Rattle.aio_base.specs.declared.steps.Step.{Step}
use Rattle.aio_base.specs.declared.steps.Step.TheVariants as step
use Rattle.aio_base.specs.World.{PollerAnswer, Registration, TimerEntry, RoundState, World, serial_of, is_empty_list}
use Rattle.aio_base.specs.Machine.{Outcome, is_listener, is_timer, unregistered, registered, tick_timer, set_timer, end_timer, begin_round, wait_in, handle_in, finish_in, case_of, left_as, worked, state_of}
use Rattle.aio_base.specs.TimerWork.{TimerState, joining, reset_work}
use Rattle.aio_laws.specs.Drawn.{IdsFollow}
use Rattle.aio_laws.proofs.steps.Frames.{either, react_any}
use Rattle.aio_laws.proofs.timers.PassLemmas.{Timed, timed, Keeps, wait_keeps, handle_keeps}
use Rattle.aio_laws.proofs.timers.Registering.{add_keeps, del_keeps, poll_keeps, new_keeps, step_keeps, drop_keeps}

-- an outcome draws an id as a step may
abbrev Draws : World → Outcome → Type 0
Draws w o = IdsFollow w o.world

-- it draws none
ids_kept : (w : World) (o : Outcome) → Keeps (timed w) o → o.world.ids_drawn ≡ w.ids_drawn
ids_kept w o keeps = ap (λ (t : Timed). t.ids) keeps

-- ## Timers

-- a registration that goes draws none
gone_before : (w : World) (id : Option ℕ) (v : World) → IdsFollow (unregistered w id) v → IdsFollow w v
gone_before w None v follows = follows
gone_before w (Some id) v follows = follows

one_draws : (w : World) (set : TimerEntry) (deadline : ℕ) (waker : Waker) → IdsFollow w (registered w set deadline waker)
one_draws w set deadline waker =
    let new : Registration = record { id = w.ids_drawn + 1; deadline = deadline; waker = waker } in
    inr (refl, (new, Contains-push w.registrations new, refl))

left_draws : (w : World) (left : TimerEntry) (registration : Option (ℕ × Waker)) → IdsFollow w (left_as w left registration)
left_draws w left None = inl refl
left_draws w left (Some registration) = one_draws w left registration.0 registration.1

worked_draws : (w : World) (entry : TimerEntry) (becomes : Option TimerState) → IdsFollow w (worked w entry becomes)
worked_draws w entry None = inl refl
worked_draws w entry (Some timer) =
    let gone = unregistered w entry.id in
    let left : TimerEntry = record entry { deadline = timer.deadline; period = timer.period; id = None; kept = timer.kept } in
    gone_before w entry.id (left_as gone left (joining timer)) (left_draws gone left (joining timer))

tick_draws : (w : World) (waker : Waker) (found : Option TimerEntry) (answers : List PollerAnswer) → Draws w (tick_timer w waker found answers)
tick_draws w waker None answers = inl refl
tick_draws w waker (Some entry) answers = worked_draws w entry _

set_draws : (w : World) (deadline : ℕ) (period : Option ℕ) (found : Option TimerEntry) (answers : List PollerAnswer) → Draws w (set_timer w deadline period found answers)
set_draws w deadline period None answers = inl refl
set_draws w deadline period (Some entry) answers = worked_draws w entry (reset_work (state_of entry) deadline period).becomes

gone_draws : (w : World) (id : Option ℕ) → (unregistered w id).ids_drawn ≡ w.ids_drawn
gone_draws w None = refl
gone_draws w (Some id) = refl

end_draws : (w : World) (found : Option TimerEntry) (answers : List PollerAnswer) → Draws w (end_timer w found answers)
end_draws w None answers = inl refl
end_draws w (Some entry) answers = inl (gone_draws w entry.id)

-- ## Rounds

-- an outcome draws no id
abbrev DrawsNone : World → Outcome → Type 0
DrawsNone w o = o.world.ids_drawn ≡ w.ids_drawn

begin_draws : (w : World) (given : Option ℕ) (answers : List PollerAnswer) → DrawsNone w (begin_round w given answers)
begin_draws w given answers = either (DrawsNone w) (is_some w.round) _ _ refl refl

finish_draws : (w : World) (round : Option RoundState) (answers : List PollerAnswer) → DrawsNone w (finish_in w round answers)
finish_draws w None answers = refl
finish_draws w (Some round) answers = either (DrawsNone w) (is_empty_list round.in_hand) _ _ refl refl

react_draws : (w : World) (answers : List PollerAnswer) → DrawsNone w (case_of w step.React answers)
react_draws w answers =
    react_any (λ v. v.ids_drawn ≡ w.ids_drawn) w None answers refl (begin_draws w None answers)
    (λ v answers same. ids_kept v (wait_in v v.round answers) (wait_keeps v v.round answers) ∙ same)
    (λ v answers same. ids_kept v (handle_in v v.round answers) (handle_keeps v v.round answers) ∙ same)
    (λ v answers same. finish_draws v v.round answers ∙ same)

-- ## A step

pub case_ids : (w : World) (s : Step) (answers : List PollerAnswer) → Draws w (case_of w s answers)
case_ids w step.Add answers = inl (ids_kept w (case_of w step.Add answers) (add_keeps w answers))
case_ids w (step.Del key) answers = inl (ids_kept w (case_of w (step.Del key) answers) (del_keeps w key.0 (serial_of w key.0) answers))
case_ids w (step.Poll key dir waker) answers = inl (ids_kept w (case_of w (step.Poll key dir waker) answers) (poll_keeps w key.0 dir waker (serial_of w key.0) answers))
case_ids w (step.New key dir) answers = inl (ids_kept w (case_of w (step.New key dir) answers) (new_keeps w dir (serial_of w key.0) answers))
case_ids w (step.StepEar number waker) answers = inl (ids_kept w (case_of w (step.StepEar number waker) answers) (step_keeps w waker (find (is_listener number) w.listeners) answers))
case_ids w (step.DropEar number) answers = inl (ids_kept w (case_of w (step.DropEar number) answers) (drop_keeps w number (find (is_listener number) w.listeners) answers))
case_ids w (step.Tick number waker) answers = tick_draws w waker (find (is_timer number) w.timers) answers
case_ids w (step.SetAt number deadline) answers = set_draws w deadline None (find (is_timer number) w.timers) answers
case_ids w (step.SetEvery number deadline period) answers = set_draws w deadline (Some period) (find (is_timer number) w.timers) answers
case_ids w (step.End number) answers = end_draws w (find (is_timer number) w.timers) answers
case_ids w (step.Now moment) answers = either (Draws w) (nat_lt moment w.now) _ _ (inl refl) (inl refl)
case_ids w (step.Begin limit) answers = inl (begin_draws w limit answers)
case_ids w step.Wait answers = inl (ids_kept w (case_of w step.Wait answers) (wait_keeps w w.round answers))
case_ids w step.Handle answers = inl (ids_kept w (case_of w step.Handle answers) (handle_keeps w w.round answers))
case_ids w step.Finish answers = inl (finish_draws w w.round answers)
case_ids w step.React answers = inl (react_draws w answers)
case_ids w _ answers = inl refl
