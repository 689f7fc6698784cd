-- What a step may change of a listener and of a timer, its own ones too.
use Rattle.std.specs.Prelude.{◌≡◌, ◌⊎◌, ℕ, ◌+◌, ◌<◌, ◌≤◌, ◌^◌, Bool, true, false, not, ◌&&◌, ◌||◌, ◌==◌, if◌then◌else◌, List, find, Option, None, Some, is_some, option_map}
use Rattle.std.specs.List.{Contains}
use Rattle.aio_base.specs.declared.names.Key.{Key}
use Rattle.aio_base.specs.declared.names.Waker.{Waker}
use Rattle.aio_base.specs.declared.names.Dir.{Dir}
use Rattle.aio_base.specs.declared.steps.Step.{Step}
use Rattle.aio_base.specs.declared.steps.Step.TheVariants as step
use Rattle.aio_base.specs.declared.steps.Answer.{Answer}
use Rattle.aio_base.specs.declared.steps.Answer.TheVariants as answer
use Rattle.aio_base.specs.World.{ListenerEntry, TimerEntry, World, serial_of}
use Rattle.aio_base.specs.Machine.{is_timer, is_waker}
use Rattle.aio_laws.specs.Others.{but_waker}

-- ## Listeners

-- a listener of a source's direction that was never polled, under the next number
abbrev pub new_listener_entry : World → ℕ → Dir → ListenerEntry
new_listener_entry w serial dir = record { number = w.listeners_drawn + 1; serial = serial; dir = dir; position = None; waker = None }

-- the step that polls a listener
abbrev pub polls_listener : Step → ℕ → Bool
polls_listener (step.StepEar number waker) n = n == number
polls_listener _ n = false

-- A listener after a step stood before it, the same but for its waker; or it was never polled, and this is its first poll, whose position it
-- remembers; or the step made it, of the source of its key and of its direction.
pub data ComesFrom (w : World) (s : Step) (l : ListenerEntry) : Type 0 where
  Stood : (old : ListenerEntry) → Contains w.listeners old → but_waker old ≡ but_waker l → ComesFrom w s l
  FirstPolled : (old : ListenerEntry) → Contains w.listeners old → old.position ≡ None → polls_listener s l.number ≡ true
      → but_waker (record old { position = Some w.pos }) ≡ but_waker l → ComesFrom w s l
  Made : (key : Key) (dir : Dir) (serial : ℕ) → s ≡ step.New key dir → serial_of w key.0 ≡ Some serial → l ≡ new_listener_entry w serial dir
      → ComesFrom w s l

-- ## Timers

-- a timer that is not registered, under the next number
abbrev pub new_timer_entry : World → Option ℕ → Option ℕ → TimerEntry
new_timer_entry w deadline period = record { number = w.timers_made + 1; deadline = deadline; period = period; id = None; kept = None }

-- whether a step makes a timer with this deadline and this period
abbrev pub MakesTimer : Step → Option ℕ → Option ℕ → Type 0
MakesTimer (step.TimerAt at) deadline period = (deadline ≡ Some at) × (period ≡ None)
MakesTimer (step.TimerEvery at every) deadline period = (deadline ≡ Some at) × (period ≡ Some every)
MakesTimer step.TimerNever deadline period = (deadline ≡ None) × (period ≡ None)
MakesTimer _ deadline period = ⊥

-- The deadline that follows one which was told ready: a period later, where that is no later than the last moment, 10^18, else none; and none
-- without a period.
abbrev pub FollowsReady : ℕ → Option ℕ → Option ℕ → Type 0
FollowsReady deadline None next = (next ≡ None)
FollowsReady deadline (Some period) next = (deadline + period ≤ 10 ^ 18 → next ≡ Some (deadline + period)) × (10 ^ 18 < deadline + period → next ≡ None)

-- Whether a step gives a timer of this number a new deadline: a `set` that is answered so, and a `tick` that is told ready.
abbrev pub redates : Step → Answer → ℕ → Bool
redates (step.SetAt number deadline) answer.Set n = n == number
redates (step.SetEvery number deadline period) answer.Set n = n == number
redates (step.Tick number waker) (answer.ReadyAt deadline) n = n == number
redates _ told n = false

-- How such a step changes deadline and period. A `set` gives the deadline that it names, and with `every` the period; a `tick` tells the deadline,
-- which has come, and gives the one that follows it. Else the period stays.
abbrev pub Redated : World → Step → Answer → TimerEntry → TimerEntry → Type 0
Redated w (step.SetAt number at) told old t = (t.deadline ≡ Some at) × (t.period ≡ old.period)
Redated w (step.SetEvery number at every) told old t = (t.deadline ≡ Some at) × (t.period ≡ Some every)
Redated w (step.Tick number waker) (answer.ReadyAt at) old t =
    (old.deadline ≡ Some at) × (at ≤ w.now) × FollowsReady at old.period t.deadline × (t.period ≡ old.period)
Redated w _ told old t = ⊥

-- A timer after a step stood before it, under its number; with its deadline and its period, where the step gives it none, and else with those that
-- the step gives. Or the step made it.
pub data TimerFrom (w : World) (s : Step) (told : Answer) (t : TimerEntry) : Type 0 where
  StoodDated : (old : TimerEntry) → Contains w.timers old → old.number ≡ t.number → redates s told t.number ≡ false
      → t.deadline ≡ old.deadline → t.period ≡ old.period → TimerFrom w s told t
  IsRedated : (old : TimerEntry) → Contains w.timers old → old.number ≡ t.number → redates s told t.number ≡ true → Redated w s told old t
      → TimerFrom w s told t
  MadeTimer : (deadline period : Option ℕ) → MakesTimer s deadline period → t ≡ new_timer_entry w deadline period → TimerFrom w s told t

-- ## What a timer keeps of its registration

-- the id of a registration, and the waker with which the timer was registered
pub record Keeping : Type 0 where
  pub id : Option ℕ
  pub waker : Option Waker

abbrev pub keeping : TimerEntry → Keeping
keeping t = record { id = t.id; waker = t.kept }

-- registered with a waker under the next id; without a waker nothing is kept
abbrev pub registered_with : World → Option Waker → Keeping
registered_with w None = record { id = None; waker = None }
registered_with w (Some waker) = record { id = Some (w.ids_drawn + 1); waker = Some waker }

-- whether a timer that is polled with a waker has nothing to wait for, or waits on with that very waker
abbrev pub waits_on : Waker → TimerEntry → Bool
waits_on waker t = not (is_some t.deadline) || (is_some t.id && is_waker waker t.kept)

-- What a timer of this number keeps after a step that is told so, by the deadline that it has then. A poll that has to wait registers it with its
-- waker, under the next id, unless it waits on; one that is told ready does so where there is a next deadline, and else nothing is kept. A `set`
-- registers it anew with the waker that it kept. No other step changes what a timer keeps, also where a pass took its registration.
abbrev pub keeping_after : World → Step → Answer → ℕ → TimerEntry → Option ℕ → Keeping
keeping_after w (step.Tick number waker) answer.Pending n old next =
    if n == number then (if waits_on waker old then keeping old else registered_with w (Some waker)) else keeping old
keeping_after w (step.Tick number waker) (answer.ReadyAt at) n old next =
    if n == number then registered_with w (option_map (λ (deadline : ℕ). waker) next) else keeping old
keeping_after w (step.SetAt number deadline) answer.Set n old next = if n == number then registered_with w old.kept else keeping old
keeping_after w (step.SetEvery number deadline period) answer.Set n old next = if n == number then registered_with w old.kept else keeping old
keeping_after w s told n old next = keeping old

-- ## A step

-- what a step makes is told, and stands among these listeners or timers
abbrev pub StandsMade : World → Step → Answer → List ListenerEntry → List TimerEntry → Type 0
StandsMade w (step.New key dir) told listeners timers = (serial : ℕ) → serial_of w key.0 ≡ Some serial
    → (told ≡ answer.Listener (w.listeners_drawn + 1)) × Contains listeners (new_listener_entry w serial dir)
StandsMade w s told listeners timers = (deadline period : Option ℕ) → MakesTimer s deadline period
    → (told ≡ answer.Timer (w.timers_made + 1)) × Contains timers (new_timer_entry w deadline period)

-- the step that gives a listener up, and the one that gives a timer up
abbrev pub drops_listener : Step → ℕ → Bool
drops_listener (step.DropEar number) n = n == number
drops_listener _ n = false

abbrev pub ends_timer : Step → ℕ → Bool
ends_timer (step.End number) n = n == number
ends_timer _ n = false

-- a listener, and a timer, of this number stands among these
abbrev pub HasListener : List ListenerEntry → ℕ → Type 0
HasListener listeners number = (l : ListenerEntry) × Contains listeners l × (l.number ≡ number)

abbrev pub HasTimer : List TimerEntry → ℕ → Type 0
HasTimer timers number = (t : TimerEntry) × Contains timers t × (t.number ≡ number)

-- Something is given up where it is told so: it was there, and is there no longer. Where it is told that there is none, there was none.
pub record GivesUp (Had Has : Type 0) (given_up none told : Answer) : Type 0 where
  pub tells : (told ≡ given_up) ⊎ (told ≡ none)
  pub was : told ≡ given_up → Had
  pub gone : told ≡ given_up → Has → ⊥
  pub never : told ≡ none → Had → ⊥

-- a `drop` gives a listener up, and an `end` a timer
abbrev pub OwnGoes : World → Step → Answer → World → Type 0
OwnGoes w (step.DropEar number) told v = GivesUp (HasListener w.listeners number) (HasListener v.listeners number) answer.Dropped answer.NoListener told
OwnGoes w (step.End number) told v = GivesUp (HasTimer w.timers number) (HasTimer v.timers number) answer.Ended answer.NoTimer told
OwnGoes w _ told v = Unit {0}

pub record KeepsItsOwn (w : World) (s : Step) (told : Answer) (v : World) : Type 0 where
  -- each listener and each timer that stands comes from one that stood, or from the step
  pub listeners : (l : ListenerEntry) → Contains v.listeners l → ComesFrom w s l
  pub timers : (t : TimerEntry) → Contains v.timers t → TimerFrom w s told t
  pub made : StandsMade w s told v.listeners v.timers
  -- the id and the waker that a timer keeps are those that it kept, or those that the step gives it
  pub keeps : (number : ℕ) (old t : TimerEntry) → find (is_timer number) w.timers ≡ Some old → find (is_timer number) v.timers ≡ Some t
      → keeping t ≡ keeping_after w s told number old t.deadline
  -- none is lost that is not given up
  pub listeners_stand : (l : ListenerEntry) → Contains w.listeners l → drops_listener s l.number ≡ false
      → (after : ListenerEntry) × Contains v.listeners after × (after.number ≡ l.number)
  pub timers_stand : (t : TimerEntry) → Contains w.timers t → ends_timer s t.number ≡ false
      → (after : TimerEntry) × Contains v.timers after × (after.number ≡ t.number)
  -- and what is given up is gone
  pub goes : OwnGoes w s told v
