-- A pass leaves no registration that is due, and takes the waker of each that was; so it is right after a round begins, and after a whole round.
use Rattle.std.proofs.Common.{◌≡◌, ℕ, ◌<◌, Bool, true, false, not, ◌&&◌, cond, List, [], ◌∷◌, Option, None, Some, ⊎_elim, inl, inr, ◌⊎◌, refl, ap, ◌∙◌, sym, subst}
use Rattle.std.specs.Prelude.{nat_le, is_some}
use Rattle.std.specs.List.{Contains, filter}
use Rattle.std.proofs.lemmas.Bool.{cases_Bool, cond-true, cond-false, leb-false, not-true}
use Rattle.std.proofs.lemmas.List.Elements.{All-weaker, All-same, filter_passes}
use Rattle.aio_base.proofs.Membership.{first_is_in, later_is_in, among_cases, none_is_in, passing_is_kept, image_is_in}
use Rattle.aio_base.proofs.Searching.{refiltered}
use Rattle.aio_base.specs.declared.names.Key.{Key}
use Rattle.aio_base.specs.declared.names.Dir.{Dir}
use Rattle.aio_base.specs.declared.names.Event.{Event}
use Rattle.aio_base.specs.World.{PollerAnswer, Registration, TimerEntry, RoundState, World, serial_of, directions_of, is_empty_list}
use Rattle.aio_base.specs.Timers.{fires_before, placed, in_order, due_wakers, after_pass, AllAbove}
use Rattle.aio_base.specs.Machine.{Outcome, fails, next_answer, broken_world, armed_world, after_arm, begin_round, wait_in, wait_round, world_taken, without_waiters, rearmed, handle_source, handle_first, handle_in, gave_none, is_zero, finish_in, finish_round, hand_of, handle_each, react}
use Rattle.aio_laws.proofs.steps.Frames.{each_any, wait_any}

-- ## What a pass leaves and takes

-- whether a registration is due
abbrev is_due : ℕ → Registration → Bool
is_due moment r = nat_le r.deadline moment

pub pass_leaves : (moment : ℕ) (registrations : List Registration) → AllAbove moment (after_pass moment registrations)
pass_leaves moment registrations =
    All-weaker (λ r. not (is_due moment r) ≡ true) (λ (r : Registration). moment < r.deadline)
    (λ r later. leb-false r.deadline moment (not-true (is_due moment r) later))
    (after_pass moment registrations) (filter_passes (λ r. not (is_due moment r)) registrations)

-- what is in two lists is in either
in_either : (test : Bool) (a b : List Registration) (x : Registration) → Contains a x → Contains b x → Contains (cond test a b) x
in_either true a b x first second = first
in_either false a b x first second = second

placed_is_in : (r : Registration) (xs : List Registration) → Contains (placed r xs) r
placed_is_in r [] = first_is_in r []
placed_is_in r (x ∷ xs) =
    in_either (fires_before x r) (x ∷ placed r xs) (r ∷ x ∷ xs) r (later_is_in x (placed r xs) r (placed_is_in r xs)) (first_is_in r (x ∷ xs))

other_stays_in : (r : Registration) (xs : List Registration) (y : Registration) → Contains xs y → Contains (placed r xs) y
other_stays_in r [] y among = none_is_in y among
other_stays_in r (x ∷ xs) y among =
    in_either (fires_before x r) (x ∷ placed r xs) (r ∷ x ∷ xs) y
    (⊎_elim
    (λ (same : x ≡ y). subst (Contains (x ∷ placed r xs)) same (first_is_in x (placed r xs)))
    (λ (later : Contains xs y). later_is_in x (placed r xs) y (other_stays_in r xs y later))
    (among_cases x xs y among))
    (later_is_in r (x ∷ xs) y among)

pub ordered_is_in : (xs : List Registration) (y : Registration) → Contains xs y → Contains (in_order xs) y
ordered_is_in [] y among = among
ordered_is_in (r ∷ xs) y among =
    ⊎_elim
    (λ (same : r ≡ y). subst (Contains (placed r (in_order xs))) same (placed_is_in r (in_order xs)))
    (λ (later : Contains xs y). other_stays_in r (in_order xs) y (ordered_is_in xs y later))
    (among_cases r xs y among)

-- each registration is left by a pass, or its waker is taken
pub pass_takes : (moment : ℕ) (registrations : List Registration) (r : Registration) → Contains registrations r
    → Contains (after_pass moment registrations) r ⊎ Contains (due_wakers moment registrations) r.waker
pass_takes moment registrations r among =
    ⊎_elim
    (λ (due : is_due moment r ≡ true).
    inr (image_is_in (λ (x : Registration). x.waker) (in_order (filter (is_due moment) registrations)) r
    (ordered_is_in (filter (is_due moment) registrations) r (passing_is_kept (is_due moment) registrations r due among))))
    (λ (later : is_due moment r ≡ false). inl (passing_is_kept (λ x. not (is_due moment x)) registrations r (ap not later) among))
    (cases_Bool (is_due moment r))

-- ## Rounds

begin_passes : (w : World) (given : Option ℕ) (answers : List PollerAnswer) → w.round ≡ None
    → (begin_round w given answers).world.registrations ≡ after_pass w.now w.registrations
begin_passes w given answers none =
    ap (λ (o : Outcome). o.world.registrations) (cond-false (is_some w.round) _ _ (ap is_some none))

pub begin_leaves : (w : World) (given : Option ℕ) (answers : List PollerAnswer) → w.round ≡ None
    → AllAbove w.now (begin_round w given answers).world.registrations
begin_leaves w given answers none =
    All-same (λ (r : Registration). w.now < r.deadline) _ _ (begin_passes w given answers none) (pass_leaves w.now w.registrations)

finish_passes : (w : World) (round : RoundState) (answers : List PollerAnswer) → is_empty_list round.in_hand ≡ true
    → (gave_none round.last_wait && not (is_zero round.limit)) ≡ true
    → (finish_in w (Some round) answers).world.registrations ≡ after_pass w.now w.registrations
finish_passes w round answers none second =
    ap (λ (o : Outcome). o.world.registrations) (cond-true (is_empty_list round.in_hand) _ _ none)
    ∙ cond-true (gave_none round.last_wait && not (is_zero round.limit)) _ _ second

-- after the second pass of a round no registration is due either
pub finish_leaves : (w : World) (round : RoundState) (answers : List PollerAnswer) → w.round ≡ Some round → round.in_hand ≡ []
    → (gave_none round.last_wait && not (is_zero round.limit)) ≡ true → AllAbove w.now (finish_round w answers).world.registrations
finish_leaves w round answers at none second =
    let left : (finish_round w answers).world.registrations ≡ after_pass w.now w.registrations =
    ap (λ r. (finish_in w r answers).world.registrations) at ∙ finish_passes w round answers (ap is_empty_list none) second in
    All-same (λ (r : Registration). w.now < r.deadline) _ _ left (pass_leaves w.now w.registrations)

-- the clock of a world, its registrations and its timers, and how many ids were drawn
pub record Timed : Type 0 where
  pub now : ℕ
  pub registrations : List Registration
  pub ids : ℕ
  pub timers : List TimerEntry

abbrev pub timed : World → Timed
timed w = record { now = w.now; registrations = w.registrations; ids = w.ids_drawn; timers = w.timers }

-- the outcome has these
abbrev pub Keeps : Timed → Outcome → Type 0
Keeps t o = timed o.world ≡ t

pub either_keeps : (t : Timed) (test : Bool) (x y : Outcome) → Keeps t x → Keeps t y → Keeps t (cond test x y)
either_keeps t true x y first second = first
either_keeps t false x y first second = second

pub either_world : (t : Timed) (test : Bool) (x y : World) → timed x ≡ t → timed y ≡ t → timed (cond test x y) ≡ t
either_world t true x y first second = first
either_world t false x y first second = second

-- a wait changes none of them
pub wait_keeps : (w : World) (round : Option RoundState) (answers : List PollerAnswer) → Keeps (timed w) (wait_in w round answers)
wait_keeps w round answers = wait_any (λ v. timed v ≡ timed w) w round answers (λ after armed. refl)

taken_keeps : (w : World) (serial begin : ℕ) (dirs : List Dir) → timed (world_taken w serial begin dirs) ≡ timed w
taken_keeps w serial begin [] = refl
taken_keeps w serial begin (dir ∷ dirs) = taken_keeps (without_waiters w serial begin dir) serial begin dirs

pub arm_keeps : (w : World) (key serial : ℕ) (told : PollerAnswer) → timed (after_arm w key serial told) ≡ timed w
arm_keeps w key serial told = either_world (timed w) (fails told) (broken_world w serial) (armed_world w key serial) refl refl

rearmed_keeps : (w : World) (round : RoundState) (key : Key) (serial : ℕ) (answers : List PollerAnswer) → Keeps (timed w) (rearmed w round key serial answers)
rearmed_keeps w round key serial answers =
    let arm = arm_keeps w key.0 serial (next_answer answers) in
    either_keeps (timed w) _ _ _ refl (either_world (timed w) _ _ _ arm arm)

handle_source_keeps : (w : World) (round : RoundState) (event : Event) (serial : Option ℕ) (answers : List PollerAnswer)
    → Keeps (timed w) (handle_source w round event serial answers)
handle_source_keeps w round event None answers = refl
handle_source_keeps w round event (Some serial) answers =
    rearmed_keeps _ _ event.key serial answers ∙ taken_keeps w serial round.begin (directions_of event.on)

handle_first_keeps : (w : World) (round : RoundState) (events : List Event) (answers : List PollerAnswer)
    → Keeps (timed w) (handle_first w round events answers)
handle_first_keeps w round [] answers = refl
handle_first_keeps w round (event ∷ events) answers = handle_source_keeps w _ event (serial_of w event.key.0) answers

-- nor does a handled event
pub handle_keeps : (w : World) (round : Option RoundState) (answers : List PollerAnswer) → Keeps (timed w) (handle_in w round answers)
handle_keeps w None answers = refl
handle_keeps w (Some round) answers = handle_first_keeps w round round.in_hand answers

pub handle_each_keeps : (events : List Event) (w : World) (answers : List PollerAnswer) → Keeps (timed w) (handle_each events w answers)
handle_each_keeps events w answers =
    each_any (λ v. timed v ≡ timed w) (λ v answers same. handle_keeps v v.round answers ∙ same) events w answers refl

-- ## What stays registered

-- what a pass left it leaves again
pass_again : (moment : ℕ) (registrations : List Registration) → after_pass moment (after_pass moment registrations) ≡ after_pass moment registrations
pass_again moment registrations = refiltered (λ r. not (is_due moment r)) (λ r. not (is_due moment r)) (λ r due. due) registrations

either_registrations : (rs : List Registration) (test : Bool) (x y : Outcome) → x.world.registrations ≡ rs → y.world.registrations ≡ rs
    → (cond test x y).world.registrations ≡ rs
either_registrations rs true x y first second = first
either_registrations rs false x y first second = second

either_list : (rs : List Registration) (test : Bool) (a b : List Registration) → a ≡ rs → b ≡ rs → cond test a b ≡ rs
either_list rs true a b first second = first
either_list rs false a b first second = second

-- a round's end changes no registration where a pass would take none
finish_keeps : (w : World) (round : Option RoundState) (answers : List PollerAnswer) → after_pass w.now w.registrations ≡ w.registrations
    → (finish_in w round answers).world.registrations ≡ w.registrations
finish_keeps w None answers passed = refl
finish_keeps w (Some round) answers passed =
    either_registrations w.registrations (is_empty_list round.in_hand) _ _
    (either_list w.registrations (gave_none round.last_wait && not (is_zero round.limit)) _ _ passed refl) refl

pub react_passes : (w : World) (given : Option ℕ) (answers : List PollerAnswer) → w.round ≡ None
    → (react w given answers).world.registrations ≡ after_pass w.now w.registrations
react_passes w given answers none =
    let begun = begin_round w given answers in
    let waited = wait_round begun.world begun.left in
    let handled = handle_each (hand_of waited.world.round) waited.world waited.left in
    let kept : timed handled.world ≡ timed begun.world =
    handle_each_keeps (hand_of waited.world.round) waited.world waited.left ∙ wait_keeps begun.world begun.world.round begun.left in
    let began : timed begun.world ≡ record (timed w) { registrations = after_pass w.now w.registrations } =
    ap (λ (o : Outcome). timed o.world) (cond-false (is_some w.round) _ _ (ap is_some none)) in
    let at = kept ∙ began in
    let same : after_pass handled.world.now handled.world.registrations ≡ handled.world.registrations =
    ap (λ (t : Timed). after_pass t.now t.registrations) at ∙ pass_again w.now w.registrations ∙ sym (ap (λ (t : Timed). t.registrations) at) in
    ap (λ (o : Outcome). o.world.registrations) (cond-false (is_some w.round) _ _ (ap is_some none))
    ∙ finish_keeps handled.world handled.world.round handled.left same
    ∙ ap (λ (t : Timed). t.registrations) at

pub react_leaves : (w : World) (given : Option ℕ) (answers : List PollerAnswer) → w.round ≡ None
    → AllAbove w.now (react w given answers).world.registrations
react_leaves w given answers none =
    All-same (λ (r : Registration). w.now < r.deadline) _ _ (react_passes w given answers none) (pass_leaves w.now w.registrations)
