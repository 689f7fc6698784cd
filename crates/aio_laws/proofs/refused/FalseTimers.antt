-- Steps of machines that treat a timer or a listener wrongly, and refused steps that do something, each refused by a law of a step.
use Rattle.std.proofs.Common.{◌≡◌, ℕ, ◌<◌, ◌≤◌, true, false, [], ◌∷◌, Option, None, Some, option_map, refl, ap, ◌∙◌, sym, subst, ⊎_elim, arith}
use Rattle.std.specs.List.{Contains}
use Rattle.aio_base.specs.declared.names.Key.{Key}
use Rattle.aio_base.specs.declared.names.Waker.{Waker}
use Rattle.aio_base.specs.declared.names.Dir.{Dir}
use Rattle.aio_base.specs.declared.names.Dir.TheVariants.{Read, Write}
use Rattle.aio_base.specs.declared.steps.Step.{Step}
use Rattle.aio_base.specs.declared.steps.Step.TheVariants as step
use Rattle.aio_base.specs.declared.steps.Answer.{Answer}
use Rattle.aio_base.specs.declared.steps.Answer.TheVariants as answer
use Rattle.aio_base.specs.World.{ListenerEntry, TimerEntry, World, opening}
use Rattle.aio_laws.specs.Own.{Keeping, ComesFrom, Stood, FirstPolled, Made, TimerFrom, StoodDated, IsRedated, MadeTimer, FollowsReady, redates, KeepsItsOwn}
use Rattle.aio_base.specs.Refusals.{RefusalLeaves}
use Rattle.aio_base.proofs.Membership.{among_cases, first_is_in, none_is_in}

apart : (m n : ℕ) → m < n → m ≡ n → ⊥
apart m n less same = absurd (omega arith)

some_number : (m n : ℕ) → Some m ≡ Some n → m ≡ n
some_number m n same = cc

none_given : (n : ℕ) → None ≡ Some n → ⊥
none_given n same = cc

abbrev number_told : Answer → Option ℕ
number_told (answer.Timer number) = Some number
number_told _ = None

-- what is in a list of one
only : {X : Type 0} (x y : X) → Contains (x ∷ []) y → x ≡ y
only x y among = ⊎_elim (λ (same : x ≡ y). same) (λ (none : Contains [] y). none_is_in y none) (among_cases x [] y among)

-- ## Timers

-- a timer that is not registered
abbrev timer : ℕ → Option ℕ → Option ℕ → TimerEntry
timer number deadline period = record { number = number; deadline = deadline; period = period; id = None; kept = None }

-- a world with this one timer
abbrev one_timer : ℕ → TimerEntry → World
one_timer pos t = record opening { pos = pos; now = 5; timers = t ∷ []; timers_made = 1 }

-- `timer at 50` makes a timer that is due at 70
made_at : (t : TimerEntry) (told : Answer) → t.deadline ≡ Some 70 → TimerFrom opening (step.TimerAt 50) told t → ⊥
made_at t told due (StoodDated old among number quiet deadline period) = none_is_in old among
made_at t told due (IsRedated old among number loud redated) = none_is_in old among
made_at t told due (MadeTimer deadline period makes is) =
    apart 50 70 (omega arith) (sym (some_number 70 50 (sym due ∙ ap (λ (x : TimerEntry). x.deadline) is ∙ makes.0)))

pub a_timer_made_with_another_deadline_is_refused : (told : Answer) → KeepsItsOwn opening (step.TimerAt 50) told (one_timer 1 (timer 1 (Some 70) None)) → ⊥
a_timer_made_with_another_deadline_is_refused told k =
    made_at (timer 1 (Some 70) None) told refl (k.timers (timer 1 (Some 70) None) (first_is_in (timer 1 (Some 70) None) []))

-- it makes none
pub a_timer_that_is_not_made_is_refused : (told : Answer) → KeepsItsOwn opening (step.TimerAt 50) told (record opening { pos = 1; timers_made = 1 }) → ⊥
a_timer_that_is_not_made_is_refused told k = none_is_in _ (k.made (Some 50) None (refl, refl)).1

-- it tells another number
pub a_timer_told_under_another_number_is_refused : (v : World) → KeepsItsOwn opening (step.TimerAt 50) (answer.Timer 2) v → ⊥
a_timer_told_under_another_number_is_refused v k =
    apart 1 2 (omega arith) (sym (some_number 2 1 (ap number_told (k.made (Some 50) None (refl, refl)).0)))

-- `set every` forgets the period
set_every : (t : TimerEntry) → t.period ≡ None → t.number ≡ 1 → TimerFrom (one_timer 1 (timer 1 (Some 9) None)) (step.SetEvery 1 9 3) answer.Set t → ⊥
set_every t none is (StoodDated old among number quiet deadline period) = let loud : redates (step.SetEvery 1 9 3) answer.Set t.number ≡ true = ap (redates (step.SetEvery 1 9 3) answer.Set) is in cc
set_every t none is (IsRedated old among number loud redated) = none_given 3 (sym none ∙ redated.1)
set_every t none is (MadeTimer deadline period makes at) = makes

pub a_set_that_forgets_the_period_is_refused :
    KeepsItsOwn (one_timer 1 (timer 1 (Some 9) None)) (step.SetEvery 1 9 3) answer.Set (one_timer 2 (timer 1 (Some 9) None)) → ⊥
a_set_that_forgets_the_period_is_refused k = set_every (timer 1 (Some 9) None) refl refl (k.timers (timer 1 (Some 9) None) (first_is_in (timer 1 (Some 9) None) []))

-- `set at` sets another deadline
set_at : (t : TimerEntry) → t.deadline ≡ Some 9 → t.number ≡ 1 → TimerFrom (one_timer 1 (timer 1 (Some 9) (Some 3))) (step.SetAt 1 7) answer.Set t → ⊥
set_at t due is (StoodDated old among number quiet deadline period) = let loud : redates (step.SetAt 1 7) answer.Set t.number ≡ true = ap (redates (step.SetAt 1 7) answer.Set) is in cc
set_at t due is (IsRedated old among number loud redated) = apart 7 9 (omega arith) (sym (some_number 9 7 (sym due ∙ redated.0)))
set_at t due is (MadeTimer deadline period makes at) = makes

pub a_set_that_keeps_the_deadline_is_refused :
    KeepsItsOwn (one_timer 1 (timer 1 (Some 9) (Some 3))) (step.SetAt 1 7) answer.Set (one_timer 2 (timer 1 (Some 9) (Some 3))) → ⊥
a_set_that_keeps_the_deadline_is_refused k = set_at (timer 1 (Some 9) (Some 3)) refl refl (k.timers (timer 1 (Some 9) (Some 3)) (first_is_in (timer 1 (Some 9) (Some 3)) []))

abbrev tick : Step
tick = step.Tick 1 (record { 0 = 7 })

-- a periodic timer loses its period as it is told ready
ready : (t : TimerEntry) → t.period ≡ None → t.number ≡ 1 → TimerFrom (one_timer 1 (timer 1 (Some 5) (Some 3))) tick (answer.ReadyAt 5) t → ⊥
ready t none is (StoodDated old among number quiet deadline period) = let loud : redates tick (answer.ReadyAt 5) t.number ≡ true = ap (redates tick (answer.ReadyAt 5)) is in cc
ready t none is (IsRedated old among number loud redated) =
    none_given 3 (sym none ∙ redated.3 ∙ sym (ap (λ (x : TimerEntry). x.period) (only (timer 1 (Some 5) (Some 3)) old among)))
ready t none is (MadeTimer deadline period makes at) = makes

pub a_period_lost_at_ready_is_refused :
    KeepsItsOwn (one_timer 1 (timer 1 (Some 5) (Some 3))) tick (answer.ReadyAt 5) (one_timer 2 (timer 1 (Some 8) None)) → ⊥
a_period_lost_at_ready_is_refused k = ready (timer 1 (Some 8) None) refl refl (k.timers (timer 1 (Some 8) None) (first_is_in (timer 1 (Some 8) None) []))

-- its next deadline is not a period later
next : (t : TimerEntry) → t.deadline ≡ Some 9 → t.number ≡ 1 → TimerFrom (one_timer 1 (timer 1 (Some 5) (Some 3))) tick (answer.ReadyAt 5) t → ⊥
next t due is (StoodDated old among number quiet deadline period) = let loud : redates tick (answer.ReadyAt 5) t.number ≡ true = ap (redates tick (answer.ReadyAt 5)) is in cc
next t due is (IsRedated old among number loud redated) =
    let every : old.period ≡ Some 3 = sym (ap (λ (x : TimerEntry). x.period) (only (timer 1 (Some 5) (Some 3)) old among)) in
    let follows : FollowsReady 5 (Some 3) t.deadline = subst (λ p. FollowsReady 5 p t.deadline) every redated.2 in
    apart 8 9 (omega arith) (sym (some_number 9 8 (sym due ∙ follows.0 (omega arith))))
next t due is (MadeTimer deadline period makes at) = makes

pub a_deadline_that_is_no_period_later_is_refused :
    KeepsItsOwn (one_timer 1 (timer 1 (Some 5) (Some 3))) tick (answer.ReadyAt 5) (one_timer 2 (timer 1 (Some 9) (Some 3))) → ⊥
a_deadline_that_is_no_period_later_is_refused k =
    next (timer 1 (Some 9) (Some 3)) refl refl (k.timers (timer 1 (Some 9) (Some 3)) (first_is_in (timer 1 (Some 9) (Some 3)) []))

-- a timer is told ready before its deadline
early : (t : TimerEntry) → t.number ≡ 1 → TimerFrom (one_timer 1 (timer 1 (Some 6) None)) tick (answer.ReadyAt 6) t → ⊥
early t is (StoodDated old among number quiet deadline period) = let loud : redates tick (answer.ReadyAt 6) t.number ≡ true = ap (redates tick (answer.ReadyAt 6)) is in cc
early t is (IsRedated old among number loud redated) = let come : 6 ≤ 5 = redated.1 in absurd (omega arith)
early t is (MadeTimer deadline period makes at) = makes

pub a_timer_told_ready_before_its_deadline_is_refused :
    KeepsItsOwn (one_timer 1 (timer 1 (Some 6) None)) tick (answer.ReadyAt 6) (one_timer 2 (timer 1 None None)) → ⊥
a_timer_told_ready_before_its_deadline_is_refused k = early (timer 1 None None) refl (k.timers (timer 1 None None) (first_is_in (timer 1 None None) []))

-- a timer that is polled and told pending waits for another deadline then
pending : (t : TimerEntry) → t.deadline ≡ Some 9 → TimerFrom (one_timer 1 (timer 1 (Some 6) None)) tick answer.Pending t → ⊥
pending t due (StoodDated old among number quiet deadline period) =
    apart 6 9 (omega arith) (some_number 6 9 (ap (λ (x : TimerEntry). x.deadline) (only (timer 1 (Some 6) None) old among) ∙ sym deadline ∙ due))
pending t due (IsRedated old among number loud redated) = let wrong : false ≡ true = loud in cc
pending t due (MadeTimer deadline period makes at) = makes

pub a_deadline_moved_by_a_pending_tick_is_refused :
    KeepsItsOwn (one_timer 1 (timer 1 (Some 6) None)) tick answer.Pending (one_timer 2 (timer 1 (Some 9) None)) → ⊥
a_deadline_moved_by_a_pending_tick_is_refused k = pending (timer 1 (Some 9) None) refl (k.timers (timer 1 (Some 9) None) (first_is_in (timer 1 (Some 9) None) []))

-- a timer that keeps this id and this waker
abbrev kept : ℕ → ℕ → ℕ → ℕ → TimerEntry
kept number deadline id waker = record { number = number; deadline = Some deadline; period = None; id = Some id; kept = Some (record { 0 = waker }) }

abbrev waker_kept : Keeping → Option ℕ
waker_kept k = option_map (λ (w : Waker). w.0) k.waker

-- a timer that is set keeps the id of a timer that has ended, and a waker that no task gave
pub a_set_that_invents_a_waker_is_refused :
    KeepsItsOwn (record opening { timers = timer 2 (Some 5) None ∷ []; timers_made = 2; ids_drawn = 1 }) (step.SetAt 2 0) answer.Set
    (record opening { pos = 1; timers = kept 2 0 1 9 ∷ []; timers_made = 2; ids_drawn = 1 }) → ⊥
a_set_that_invents_a_waker_is_refused k = none_given 9 (sym (ap waker_kept (k.keeps 2 (timer 2 (Some 5) None) (kept 2 0 1 9) refl refl)))

-- a timer that waits on with the same waker forgets id and waker, so that a later `set` registers nothing
pub a_tick_that_forgets_its_waker_is_refused :
    KeepsItsOwn (record opening { timers = kept 1 50 1 7 ∷ []; timers_made = 1; ids_drawn = 1 }) tick answer.Pending
    (record opening { pos = 1; timers = timer 1 (Some 50) None ∷ []; timers_made = 1; ids_drawn = 1 }) → ⊥
a_tick_that_forgets_its_waker_is_refused k = none_given 7 (ap waker_kept (k.keeps 1 (kept 1 50 1 7) (timer 1 (Some 50) None) refl refl))

-- a pass takes the registration of a timer, and the timer forgets its waker, with which a `set` would register it again
pub a_waker_forgotten_at_a_pass_is_refused :
    KeepsItsOwn (record opening { now = 60; timers = kept 1 50 1 7 ∷ []; timers_made = 1; ids_drawn = 1 }) (step.Begin None) (answer.Begin 1 (Some 0))
    (record opening { pos = 1; now = 60; timers = timer 1 (Some 50) None ∷ []; timers_made = 1; ids_drawn = 1 }) → ⊥
a_waker_forgotten_at_a_pass_is_refused k = none_given 7 (ap waker_kept (k.keeps 1 (kept 1 50 1 7) (timer 1 (Some 50) None) refl refl))

-- a timer that is told ready is gone
pub a_timer_lost_at_ready_is_refused : (told : Answer)
    → KeepsItsOwn (one_timer 1 (timer 1 (Some 5) None)) tick told (record opening { pos = 2; now = 5; timers_made = 1 }) → ⊥
a_timer_lost_at_ready_is_refused told k =
    let after = k.timers_stand (timer 1 (Some 5) None) (first_is_in (timer 1 (Some 5) None) []) refl in none_is_in after.0 after.1

-- ## Listeners

abbrev sourced : World
sourced = record opening { live = record { key = 0; serial = 1 } ∷ []; serials = 1 }

abbrev listener : Dir → Option ℕ → ListenerEntry
listener dir position = record { number = 1; serial = 1; dir = dir; position = position; waker = None }

abbrev listening : ListenerEntry → World
listening l = record sourced { pos = 1; listeners = l ∷ []; listeners_drawn = 1 }

other_way : Write ≡ Read → ⊥
other_way same = cc

same_step : (a b : Dir) (j k : Key) → step.New j a ≡ step.New k b → a ≡ b
same_step a b j k same = cc

-- a listener is made of another direction
turned : (l : ListenerEntry) → l.dir ≡ Write → ComesFrom sourced (step.New (record { 0 = 0 }) Read) l → ⊥
turned l dir (Stood old among same) = none_is_in old among
turned l dir (FirstPolled old among none polls same) = none_is_in old among
turned l dir (Made key made serial is live entry) =
    other_way (sym dir ∙ ap (λ (x : ListenerEntry). x.dir) entry ∙ sym (same_step Read made (record { 0 = 0 }) key is))

pub a_listener_of_the_other_direction_is_refused : (told : Answer)
    → KeepsItsOwn sourced (step.New (record { 0 = 0 }) Read) told (listening (listener Write None)) → ⊥
a_listener_of_the_other_direction_is_refused told k = turned (listener Write None) refl (k.listeners (listener Write None) (first_is_in (listener Write None) []))

-- a listener is made that counts as polled
polled : (l : ListenerEntry) → l.position ≡ Some 0 → ComesFrom sourced (step.New (record { 0 = 0 }) Read) l → ⊥
polled l position (Stood old among same) = none_is_in old among
polled l position (FirstPolled old among none polls same) = none_is_in old among
polled l position (Made key made serial is live entry) = none_given 0 (sym (sym position ∙ ap (λ (x : ListenerEntry). x.position) entry))

pub a_listener_made_with_a_position_is_refused : (told : Answer)
    → KeepsItsOwn sourced (step.New (record { 0 = 0 }) Read) told (listening (listener Read (Some 0))) → ⊥
a_listener_made_with_a_position_is_refused told k = polled (listener Read (Some 0)) refl (k.listeners (listener Read (Some 0)) (first_is_in (listener Read (Some 0)) []))

-- a listener is told, and none is made
pub a_listener_that_is_not_made_is_refused : (told : Answer)
    → KeepsItsOwn sourced (step.New (record { 0 = 0 }) Read) told (record sourced { pos = 1; listeners_drawn = 1 }) → ⊥
a_listener_that_is_not_made_is_refused told k = none_is_in _ (k.made 1 refl).1

-- a poll loses its listener
pub a_listener_lost_by_its_poll_is_refused : (told : Answer) (waker : Waker)
    → KeepsItsOwn (listening (listener Read None)) (step.StepEar 1 waker) told (record sourced { pos = 2; listeners_drawn = 1 }) → ⊥
a_listener_lost_by_its_poll_is_refused told waker k =
    let after = k.listeners_stand (listener Read None) (first_is_in (listener Read None) []) refl in none_is_in after.0 after.1

-- a listener is dropped, and stands on
pub a_dropped_listener_that_stands_on_is_refused :
    KeepsItsOwn (listening (listener Read None)) (step.DropEar 1) answer.Dropped (listening (listener Read None)) → ⊥
a_dropped_listener_that_stands_on_is_refused k = k.goes.gone refl (listener Read None, first_is_in (listener Read None) [], refl)

-- a listener that is not there is dropped
pub a_drop_of_no_listener_is_refused : (v : World) → KeepsItsOwn sourced (step.DropEar 1) answer.Dropped v → ⊥
a_drop_of_no_listener_is_refused v k = let had = k.goes.was refl in none_is_in had.0 had.1

-- a timer is ended, and stands on
pub an_ended_timer_that_stands_on_is_refused :
    KeepsItsOwn (record opening { timers = timer 1 (Some 5) None ∷ []; timers_made = 1 }) (step.End 1) answer.Ended
    (record opening { pos = 1; timers = timer 1 (Some 5) None ∷ []; timers_made = 1 }) → ⊥
an_ended_timer_that_stands_on_is_refused k = k.goes.gone refl (timer 1 (Some 5) None, first_is_in (timer 1 (Some 5) None) [], refl)

-- ## Refused steps

-- a step that is refused moves the clock
pub a_refused_step_that_moves_the_clock_is_refused : RefusalLeaves opening answer.NoSource [] (record opening { pos = 1; now = 5 }) → ⊥
a_refused_step_that_moves_the_clock_is_refused r =
    apart 0 5 (omega arith) (sym (ap (λ (w : World). w.now) (r.world refl)))

-- it keeps its position
pub a_refused_step_that_keeps_its_position_is_refused : RefusalLeaves opening answer.Full [] opening → ⊥
a_refused_step_that_keeps_its_position_is_refused r =
    apart 0 1 (omega arith) (ap (λ (w : World). w.pos) (r.world refl))

-- it wakes a task
pub a_refused_step_that_wakes_is_refused : (waker : Waker) → RefusalLeaves opening answer.Locked (waker ∷ []) (record opening { pos = 1 }) → ⊥
a_refused_step_that_wakes_is_refused waker r = let none : waker ∷ [] ≡ [] = r.woken refl in cc
