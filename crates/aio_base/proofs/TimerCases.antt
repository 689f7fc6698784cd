-- What a poll and a setting of a timer come to in the machine, case by case: by its deadline, the moment, the waker that it keeps and its period.
use Rattle.std.proofs.Common.{◌≡◌, ℕ, Bool, true, false, ◌&&◌, nat_le, if◌then◌else◌, List, Option, None, Some, is_some, refl, sym, ap}
use Rattle.aio_base.specs.declared.names.Waker.{Waker}
use Rattle.aio_base.specs.declared.steps.Answer.TheVariants as answer
use Rattle.aio_base.specs.World.{PollerAnswer, Registration, TimerEntry, World, is_waker}
use Rattle.aio_base.specs.TimerWork.{TimerState, Work, joining, no_work, next_deadline, firing, tick_work, reset_work}
use Rattle.aio_base.specs.TimerWork as work
use Rattle.aio_base.specs.Machine.{Outcome, quiet, with_timer, unregistered, registered, left_as, worked, state_of, tick_answer, tick_timer, set_timer}

-- ## A poll

-- a timer that fired, with the deadline that comes next, if one does
abbrev pub fired : World → TimerEntry → Waker → Option ℕ → World
fired w entry waker None = with_timer w (record entry { deadline = None; id = None; kept = None })
fired w entry waker (Some deadline) = registered w entry deadline waker

-- a timer that waits for a deadline to come: registered with this waker, anew where it is with another
abbrev pub waiting : World → TimerEntry → ℕ → Waker → World
waiting w entry deadline waker =
    if is_some entry.id && is_waker waker entry.kept then w else registered (unregistered w entry.id) entry deadline waker

abbrev pub tick_deadline : World → TimerEntry → Waker → Option ℕ → List PollerAnswer → Outcome
tick_deadline w entry waker None answers = quiet answer.Pending w answers
tick_deadline w entry waker (Some deadline) answers =
    if nat_le deadline w.now
    then quiet (answer.ReadyAt deadline) (fired (unregistered w entry.id) entry waker (next_deadline deadline entry.period)) answers
    else quiet answer.Pending (waiting w entry deadline waker) answers

abbrev told : World → TimerEntry → List PollerAnswer → Work → Outcome
told w entry answers work = quiet (tick_answer work.reached) (worked w entry work.becomes) answers

either : (test : Bool) (f : Work → Outcome) (x y : Work) (a b : Outcome) → f x ≡ a → f y ≡ b → f (if test then x else y) ≡ (if test then a else b)
either true f x y a b one two = one
either false f x y a b one two = two

fires : (w : World) (entry : TimerEntry) (answers : List PollerAnswer) (deadline : ℕ) (waker : Waker) (next : Option ℕ)
    → told w entry answers (firing (state_of entry) deadline waker next)
    ≡ quiet (answer.ReadyAt deadline) (fired (unregistered w entry.id) entry waker next) answers
fires w entry answers deadline waker None = refl
fires w entry answers deadline waker (Some next) = refl

waits : (keeps : Bool) (w : World) (entry : TimerEntry) (answers : List PollerAnswer) (deadline : ℕ) (waker : Waker)
    → told w entry answers
    (if keeps then no_work else record { becomes = Some (record (state_of entry) { deadline = Some deadline; kept = Some waker }); reached = None })
    ≡ quiet answer.Pending (if keeps then w else registered (unregistered w entry.id) entry deadline waker) answers
waits true w entry answers deadline waker = refl
waits false w entry answers deadline waker = refl

ticks : (w : World) (waker : Waker) (entry : TimerEntry) (deadline : Option ℕ) (answers : List PollerAnswer)
    → told w entry answers (work.ticking (is_some entry.id) (state_of entry) deadline w.now waker) ≡ tick_deadline w entry waker deadline answers
ticks w waker entry None answers = refl
ticks w waker entry (Some deadline) answers =
    either (nat_le deadline w.now) (told w entry answers) _ _ _ _ (fires w entry answers deadline waker (next_deadline deadline entry.period))
    (waits (is_some entry.id && is_waker waker entry.kept) w entry answers deadline waker)

pub tick_by_deadline : (w : World) (waker : Waker) (entry : TimerEntry) (answers : List PollerAnswer)
    → tick_deadline w entry waker entry.deadline answers ≡ tick_timer w waker (Some entry) answers
tick_by_deadline w waker entry answers = sym (ticks w waker entry entry.deadline answers)

-- ## A setting

abbrev pub set_deadline : World → TimerEntry → ℕ → Option Waker → World
set_deadline w entry deadline None = with_timer w (record entry { deadline = Some deadline; id = None })
set_deadline w entry deadline (Some waker) = registered w entry deadline waker

-- a timer with the period that is set, if one is
abbrev pub set_period : TimerEntry → Option ℕ → TimerEntry
set_period entry period = if is_some period then record entry { period = period } else entry

sets : (w : World) (number deadline : ℕ) (period : Option ℕ) (own_deadline own_period : Option ℕ) (id : Option ℕ) (kept : Option Waker)
    → (let entry : TimerEntry = record { number = number; deadline = own_deadline; period = own_period; id = id; kept = kept } in
    set_deadline (unregistered w id) (set_period entry period) deadline kept ≡ worked w entry (reset_work (state_of entry) deadline period).becomes)
sets w number deadline None own_deadline own_period id None = refl
sets w number deadline None own_deadline own_period id (Some waker) = refl
sets w number deadline (Some period) own_deadline own_period id None = refl
sets w number deadline (Some period) own_deadline own_period id (Some waker) = refl

pub set_by_kept : (w : World) (deadline : ℕ) (period : Option ℕ) (entry : TimerEntry) (answers : List PollerAnswer)
    → quiet answer.Set (set_deadline (unregistered w entry.id) (set_period entry period) deadline entry.kept) answers
    ≡ set_timer w deadline period (Some entry) answers
set_by_kept w deadline period entry answers =
    ap (λ v. quiet answer.Set v answers) (sets w entry.number deadline period entry.deadline entry.period entry.id entry.kept)

-- ## Whatever the case

-- a world with other timers, other registrations and another count of ids
abbrev pub with_timers : World → List TimerEntry → List Registration → ℕ → World
with_timers w timers registrations ids = record w { timers = timers; registrations = registrations; ids_drawn = ids }

left_any : (P : World → Type 0) (w : World) (id : Option ℕ) (left : TimerEntry) (registration : Option (ℕ × Waker))
    → ((timers : List TimerEntry) (registrations : List Registration) (ids : ℕ) → P (with_timers w timers registrations ids))
    → P (left_as (unregistered w id) left registration)
left_any P w None left None given = given _ _ _
left_any P w None left (Some registration) given = given _ _ _
left_any P w (Some id) left None given = given _ _ _
left_any P w (Some id) left (Some registration) given = given _ _ _

-- what holds of a world whatever its timers, its registrations and its count of ids holds once the work of a call on a timer is done
pub worked_any : (P : World → Type 0) (w : World) (entry : TimerEntry) (becomes : Option TimerState)
    → ((timers : List TimerEntry) (registrations : List Registration) (ids : ℕ) → P (with_timers w timers registrations ids))
    → P (worked w entry becomes)
worked_any P w entry None given = given w.timers w.registrations w.ids_drawn
worked_any P w entry (Some timer) given =
    left_any P w entry.id (record entry { deadline = timer.deadline; period = timer.period; id = None; kept = timer.kept }) (joining timer) given

told_any : (P : Outcome → Type 0) (w : World) (answers : List PollerAnswer) (reached : Option ℕ)
    → ((timers : List TimerEntry) (registrations : List Registration) (ids : ℕ) → P (quiet answer.Pending (with_timers w timers registrations ids) answers))
    → ((deadline : ℕ) (timers : List TimerEntry) (registrations : List Registration) (ids : ℕ)
    → P (quiet (answer.ReadyAt deadline) (with_timers w timers registrations ids) answers))
    → (timers : List TimerEntry) (registrations : List Registration) (ids : ℕ)
    → P (quiet (tick_answer reached) (with_timers w timers registrations ids) answers)
told_any P w answers None waits fires = waits
told_any P w answers (Some deadline) waits fires = fires deadline

-- and so of what a poll gives, whether it waits or a deadline was reached
pub tick_any : (P : Outcome → Type 0) (w : World) (waker : Waker) (entry : TimerEntry) (answers : List PollerAnswer)
    → ((timers : List TimerEntry) (registrations : List Registration) (ids : ℕ) → P (quiet answer.Pending (with_timers w timers registrations ids) answers))
    → ((deadline : ℕ) (timers : List TimerEntry) (registrations : List Registration) (ids : ℕ)
    → P (quiet (answer.ReadyAt deadline) (with_timers w timers registrations ids) answers))
    → P (tick_timer w waker (Some entry) answers)
tick_any P w waker entry answers waits fires =
    let work = tick_work (is_some entry.id) (state_of entry) w.now waker in
    worked_any (λ v. P (quiet (tick_answer work.reached) v answers)) w entry work.becomes (told_any P w answers work.reached waits fires)

pub set_any : (P : Outcome → Type 0) (w : World) (deadline : ℕ) (period : Option ℕ) (entry : TimerEntry) (answers : List PollerAnswer)
    → ((timers : List TimerEntry) (registrations : List Registration) (ids : ℕ) → P (quiet answer.Set (with_timers w timers registrations ids) answers))
    → P (set_timer w deadline period (Some entry) answers)
set_any P w deadline period entry answers given =
    worked_any (λ v. P (quiet answer.Set v answers)) w entry (reset_work (state_of entry) deadline period).becomes given
