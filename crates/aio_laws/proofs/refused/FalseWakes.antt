-- Steps of wrong machines that wake whom they like, lose a waker or keep one back, each refused by what stands of one step, with no run.
use Rattle.std.proofs.Common.{◌≡◌, ◌≢◌, ℕ, ◌<◌, ◌≤◌, List, [], ◌∷◌, length, Option, None, Some, option_map, find, ◌==◌, refl, ap, sym, subst, ◌∙◌, arith, ⊎_elim}
use Rattle.std.specs.Prelude.{drop}
use Rattle.std.specs.List.{All, Contains}
use Rattle.std.proofs.lemmas.List.Elements.{All-cons, All-head}
use Rattle.aio_base.specs.declared.names.Waker.{Waker}
use Rattle.aio_base.specs.declared.names.Dir.TheVariants.{Read, Write}
use Rattle.aio_base.specs.declared.outcomes.Which.{Which}
use Rattle.aio_base.specs.declared.outcomes.Which.TheVariants as which
use Rattle.aio_base.specs.declared.steps.Step.{Step}
use Rattle.aio_base.specs.declared.steps.Step.TheVariants as step
use Rattle.aio_base.specs.World.{PollerAnswer, Succeeds, LiveSource, PollWaiter, ListenerEntry, BrokenSource, Registration, TimerEntry, World, opening, poll_waiter}
use Rattle.aio_base.specs.Machine.{Outcome, step_result}
use Rattle.aio_base.specs.Runs.{PolledStep, outcome_of}
use Rattle.aio_laws.specs.Between.{StepStands}
use Rattle.aio_laws.specs.Distinct.{Differ, IsOfTimer, NoDoubles, StandsOnce, mark_direction, waiter_direction}
use Rattle.aio_laws.specs.Storings.{Place, OfPoll, OfTimer, taken_of, waker_at}
use Rattle.aio_laws.specs.Waking.{WokeTheSame}
use Rattle.aio_base.proofs.Membership.{first_is_in, none_is_in, among_cases}
use Rattle.aio_laws.proofs.runs.Apart.{apart_differ}
use Rattle.aio_laws.proofs.storings.Waking.{only_these}
use Rattle.aio_laws.proofs.refused.FalseNotes.{task, key, mark, round}

-- what stands of a step fixes whom it wakes, who waits after it, and whom the running round has taken
same : (w : World) (s : PolledStep) (o : Outcome) → NoDoubles w → StepStands w s o → WokeTheSame (outcome_of w s).wakes (outcome_of w s).world o.wakes o.world
same w s o distinct stands = only_these w s o.wakes o.world distinct stands.woken

-- a step wakes whom it likes: any step, in any world in which nothing stands twice, whatever else it does
pub a_step_that_wakes_whom_it_likes_is_refused : (w : World) (s : PolledStep) (o : Outcome) → NoDoubles w → o.wakes ≢ (outcome_of w s).wakes
    → StepStands w s o → ⊥
a_step_that_wakes_whom_it_likes_is_refused w s o distinct other stands = other (same w s o distinct stands).wakes

-- and one that leaves another waker at a place than it has to, or leaves one where there is to be none
pub a_step_that_leaves_another_waiter_is_refused : (w : World) (s : PolledStep) (o : Outcome) (p : Place) → NoDoubles w
    → waker_at o.world p ≢ waker_at (outcome_of w s).world p → StepStands w s o → ⊥
a_step_that_leaves_another_waiter_is_refused w s o p distinct other stands = other ((same w s o distinct stands).held p)

-- ## A world

-- Task 7 reads from source 0; task 9 waits for the deadline 50 of a timer; task 11 has a listener for writability of source 1; and a round runs that has
-- taken task 8.
abbrev serving : World
serving = record opening {
  pos = 9;
  live = record { key = 0; serial = 1 } ∷ record { key = 1; serial = 2 } ∷ [];
  serials = 2;
  poll_waiters = record { serial = 1; dir = Read; waker = task 7 } ∷ [];
  marks = mark 1 Read 1 ∷ [];
  listeners = record { number = 1; serial = 2; dir = Write; position = Some 3; waker = Some (task 11) } ∷ [];
  listeners_drawn = 1;
  registrations = record { id = 1; deadline = 50; waker = task 9 } ∷ [];
  ids_drawn = 1;
  timers = record { number = 1; deadline = Some 50; period = None; id = Some 1; kept = Some (task 9) } ∷ [];
  timers_made = 1;
  rounds = 1;
  begun = 2 ∷ [];
  round = Some (record (round 2 []) { taken = task 8 ∷ [] });
}

one_differs : {X K : Type 0} (key : X → K) (x : X) → Differ key (x ∷ [])
one_differs key x = apart_differ key (x ∷ []) (λ y among. none_is_in y among, tt)

none_differ : {X K : Type 0} (key : X → K) → Differ key []
none_differ key = apart_differ key [] tt

two_differ : {X K : Type 0} (key : X → K) (x y : X) → key x ≢ key y → Differ key (x ∷ y ∷ [])
two_differ key x y apart =
    apart_differ key (x ∷ y ∷ []) (
      λ z among. ⊎_elim (λ (is : y ≡ z). λ (e : key x ≡ key z). apart (e ∙ sym (ap key is))) (λ (none : Contains [] z). none_is_in z none) (among_cases y [] z among),
      (λ z among. none_is_in z among, tt),
    )

-- the waker of the registration of an id
abbrev registered_at : List Registration → ℕ → Option Waker
registered_at registrations id = option_map (λ (r : Registration). r.waker) (find (λ (r : Registration). r.id == id) registrations)

one_of : {X : Type 0} (P : X → Type 0) (x : X) → P x → All P (x ∷ [])
one_of P x holds = All-cons P x [] holds (λ k d within. absurd (omega arith))

two_of : {X : Type 0} (P : X → Type 0) (x y : X) → P x → P y → All P (x ∷ y ∷ [])
two_of P x y first second = All-cons P x (y ∷ []) first (one_of P y second)

serving_once : NoDoubles serving
serving_once = record {
  keys = two_differ (λ (s : LiveSource). s.key) _ _ (λ e. absurd cc);
  serials = two_differ (λ (s : LiveSource). s.serial) _ _ (λ e. absurd cc);
  serials_given = two_of (λ (s : LiveSource). s.serial ≤ 2) _ _ (omega arith) (omega arith);
  poll_waiters = one_differs waiter_direction _;
  marks = one_differs mark_direction _;
  broken = none_differ (λ (b : BrokenSource). b.serial);
  listeners = one_differs (λ (l : ListenerEntry). l.number) _;
  listeners_drawn = one_of (λ (l : ListenerEntry). l.number ≤ 1) _ (omega arith);
  registrations = one_differs (λ (r : Registration). r.id) _;
  ids_drawn = one_of (λ (r : Registration). r.id ≤ 1) _ (omega arith);
  timers = one_differs (λ (t : TimerEntry). t.number) _;
  timers_made = one_of (λ (t : TimerEntry). t.number ≤ 1) _ (omega arith);
}

abbrev polled : Step → List PollerAnswer → PolledStep
polled s answers = record { step = s; answers = answers }

-- a world refuses an outcome of a step
abbrev Refused : World → Step → List PollerAnswer → Outcome → Type 0
Refused w s answers o = StepStands w (polled s answers) o → ⊥

apart : (m n : ℕ) → m < n → m ≡ n → ⊥
apart m n less is = absurd (omega arith)

two_are_one : (a b c : Waker) → a ∷ b ∷ [] ≡ c ∷ [] → ⊥
two_are_one a b c is = let long = ap length is in absurd (omega arith)

number_of : Option Waker → ℕ
number_of None = 0
number_of (Some waker) = waker.0

another : Some (task 9) ≡ Some (task 10) → ⊥
unfolding number_of
another is = apart 9 10 (omega arith) (ap number_of is)

-- ## Wakes

-- a round ends and wakes nobody
pub a_finish_that_wakes_nobody_is_refused : (answers : List PollerAnswer) (o : Outcome) → o.wakes ≡ [] → Refused serving step.Finish answers o
unfolding step_result
a_finish_that_wakes_nobody_is_refused answers o none stands =
    let wrong = sym none ∙ (same serving (polled step.Finish answers) o serving_once stands).wakes in cc

-- or wakes one twice
pub a_finish_that_wakes_twice_is_refused : (answers : List PollerAnswer) (o : Outcome) → o.wakes ≡ task 8 ∷ task 8 ∷ []
    → Refused serving step.Finish answers o
unfolding step_result
a_finish_that_wakes_twice_is_refused answers o twice stands =
    two_are_one (task 8) (task 8) (task 8) (sym twice ∙ (same serving (polled step.Finish answers) o serving_once stands).wakes)

-- or one who still waits
pub a_finish_that_wakes_a_waiter_is_refused : (answers : List PollerAnswer) (o : Outcome) → o.wakes ≡ task 8 ∷ task 7 ∷ []
    → Refused serving step.Finish answers o
unfolding step_result
a_finish_that_wakes_a_waiter_is_refused answers o more stands =
    two_are_one (task 8) (task 7) (task 8) (sym more ∙ (same serving (polled step.Finish answers) o serving_once stands).wakes)

-- a poll replaces the waker of another task, and does not wake it
pub a_poll_that_wakes_nobody_whom_it_replaces_is_refused : (answers : List PollerAnswer) (o : Outcome) → o.wakes ≡ []
    → Refused serving (step.Poll (key 0) Read (task 6)) answers o
unfolding step_result
a_poll_that_wakes_nobody_whom_it_replaces_is_refused answers o none stands =
    let wrong = sym none ∙ (same serving (polled (step.Poll (key 0) Read (task 6)) answers) o serving_once stands).wakes in cc

-- a listener that is given up wakes its task
pub a_drop_that_wakes_is_refused : (answers : List PollerAnswer) (o : Outcome) → o.wakes ≡ task 11 ∷ [] → Refused serving (step.DropEar 1) answers o
unfolding step_result
a_drop_that_wakes_is_refused answers o some stands =
    let wrong = sym some ∙ (same serving (polled (step.DropEar 1) answers) o serving_once stands).wakes in cc

-- ## Waiters

-- the end of a round loses the reader of a source of which no event came
pub a_finish_that_loses_a_waiter_is_refused : (answers : List PollerAnswer) (o : Outcome) → o.world.poll_waiters ≡ [] → Refused serving step.Finish answers o
unfolding step_result
a_finish_that_loses_a_waiter_is_refused answers o lost stands =
    let here : Some (task 7) ≡ waker_at o.world (OfPoll 1 Read) = sym ((same serving (polled step.Finish answers) o serving_once stands).held (OfPoll 1 Read)) in
    let wrong : Some (task 7) ≡ None = here ∙ ap (λ (waiters : List PollWaiter). poll_waiter waiters 1 Read) lost in cc

-- a clock that is set takes back what the round has taken
pub a_now_that_empties_the_round_is_refused : (answers : List PollerAnswer) (o : Outcome) → taken_of o.world.round ≡ [] → Refused serving (step.Now 5) answers o
unfolding step_result
a_now_that_empties_the_round_is_refused answers o lost stands =
    let wrong : [] ≡ task 8 ∷ [] = sym lost ∙ (same serving (polled (step.Now 5) answers) o serving_once stands).taken in cc

-- a timer that is polled again by another task stays registered with the waker of the earlier one
pub a_tick_that_registers_another_waker_is_refused : (answers : List PollerAnswer) (o : Outcome)
    → o.world.registrations ≡ record { id = 2; deadline = 50; waker = task 9 } ∷ [] → Refused serving (step.Tick 1 (task 10)) answers o
unfolding step_result
a_tick_that_registers_another_waker_is_refused answers o other stands =
    another
    (sym (ap (λ (registrations : List Registration). registered_at registrations 2) other)
    ∙ (same serving (polled (step.Tick 1 (task 10)) answers) o serving_once stands).held (OfTimer 2))

serving_stands_once : StandsOnce serving
serving_stands_once = record {
  distinct = serving_once;
  timed = one_of (IsOfTimer serving.timers) _
      (record { timer = _; among = first_is_in _ []; id = refl; deadline = refl; kept = refl });
}

some_is : (m n : ℕ) → Some m ≡ Some n → m ≡ n
some_is m n is = cc

-- a timer that is set to 60 is registered for 55
pub a_set_that_registers_another_deadline_is_refused : (answers : List PollerAnswer) (o : Outcome) (t : TimerEntry) → t.deadline ≡ Some 60
    → o.world.timers ≡ t ∷ [] → o.world.registrations ≡ record { id = 2; deadline = 55; waker = task 9 } ∷ []
    → Refused serving (step.SetAt 1 60) answers o
a_set_that_registers_another_deadline_is_refused answers o t at timers registered stands =
    let r : Registration = record { id = 2; deadline = 55; waker = task 9 } in
    let timed = subst (λ (registrations : List Registration). All (IsOfTimer o.world.timers) registrations) registered (stands.once serving_stands_once).timed in
    let of = subst (λ (entries : List TimerEntry). IsOfTimer entries r) timers (All-head (IsOfTimer o.world.timers) r [] timed) in
    ⊎_elim
    (λ (is : t ≡ of.timer). apart 55 60 (omega arith) (some_is 55 60 (sym of.deadline ∙ ap (λ (t : TimerEntry). t.deadline) (sym is) ∙ at)))
    (λ (none : Contains [] of.timer). none_is_in of.timer none)
    (among_cases t [] of.timer of.among)

-- ## Answers of the poller

-- an `add` takes two answers of the poller for its one call
pub an_add_that_takes_two_answers_is_refused : (w : World) (o : Outcome) → o.calls ≡ which.Add ∷ [] → o.left ≡ []
    → Refused w step.Add (Succeeds ∷ Succeeds ∷ []) o
an_add_that_takes_two_answers_is_refused w o calls none stands =
    let wrong : [] ≡ Succeeds ∷ [] = sym none ∙ stands.left ∙ ap (λ (calls : List Which). drop (length calls) (Succeeds ∷ Succeeds ∷ [])) calls in cc
