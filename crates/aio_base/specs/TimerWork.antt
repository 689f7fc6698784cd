-- The rule of timers: what a timer holds, and the work of each call on it (`async-io` 2, `lib.rs`, `Timer` as a stream). The machine does the
-- work on its world, and the timer of `aio_future` on its host.
use Rattle.std.specs.Prelude.{ℕ, ◌+◌, Bool, ◌&&◌, nat_le, if◌then◌else◌, Option, None, Some, option_map}
use Rattle.aio_base.specs.declared.names.Waker.{Waker}
use Rattle.aio_base.specs.World.{is_waker, last_moment}

-- what a timer holds beside its registration: its deadline, its period and the waker that it keeps
pub record TimerState : Type 0 where
  pub deadline : Option ℕ
  pub period : Option ℕ
  pub kept : Option Waker

-- The work of a call on a timer: what the timer becomes, where it changes, and the deadline that was reached, if one was. A timer that changes
-- leaves its registration, if it has one, and is registered anew as what it becomes wants it.
pub record Work : Type 0 where
  pub becomes : Option TimerState
  pub reached : Option ℕ

abbrev pub joining_at : Option ℕ → Option Waker → Option (ℕ × Waker)
joining_at None kept = None
joining_at (Some deadline) kept = option_map (λ waker. (deadline, waker)) kept

-- the registration that a timer wants: at its deadline with the waker that it keeps, where it has both
abbrev pub joining : TimerState → Option (ℕ × Waker)
joining timer = joining_at timer.deadline timer.kept

-- a call that finds nothing to do
abbrev pub no_work : Work
no_work = record { becomes = None; reached = None }

-- the deadline after one that fired: a period later, where there is a period and the last moment is not passed
abbrev pub next_deadline : ℕ → Option ℕ → Option ℕ
next_deadline deadline None = None
next_deadline deadline (Some period) = if nat_le (deadline + period) last_moment then Some (deadline + period) else None

-- a deadline that was reached: the timer goes on to the next one with this waker; where none comes it is over, and keeps no waker
abbrev pub firing : TimerState → ℕ → Waker → Option ℕ → Work
firing timer deadline waker next =
    record { becomes = Some (record timer { deadline = next; kept = option_map (λ later. waker) next }); reached = Some deadline }

-- a deadline that is still to come: the timer is registered with this waker, anew where it is with another
abbrev pub waiting : Bool → TimerState → ℕ → Waker → Work
waiting is_registered timer deadline waker =
    if is_registered && is_waker waker timer.kept then no_work
    else record { becomes = Some (record timer { deadline = Some deadline; kept = Some waker }); reached = None }

abbrev pub ticking : Bool → TimerState → Option ℕ → ℕ → Waker → Work
ticking is_registered timer None now waker = no_work
ticking is_registered timer (Some deadline) now waker =
    if nat_le deadline now then firing timer deadline waker (next_deadline deadline timer.period)
    else waiting is_registered timer deadline waker

-- a poll of a timer, registered or not, at a moment with a waker
abbrev pub tick_work : Bool → TimerState → ℕ → Waker → Work
tick_work is_registered timer now waker = ticking is_registered timer timer.deadline now waker

-- the period that is set, where one is, else the timer's own
abbrev pub period_set : Option ℕ → Option ℕ → Option ℕ
period_set None own = own
period_set (Some period) own = Some period

-- Setting the deadline, and the period where one is given. The timer is registered anew where it keeps a waker, at a deadline in the past too
-- (`async-io` 2, `lib.rs`, `Timer::set_at` and `set_interval_at`).
abbrev pub reset_work : TimerState → ℕ → Option ℕ → Work
reset_work timer deadline period =
    record { becomes = Some (record timer { deadline = Some deadline; period = period_set period timer.period }); reached = None }
