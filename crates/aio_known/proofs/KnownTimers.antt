-- The steps on timers and on the clock give what follows from what is known.
use Rattle.std.proofs.Common.{◌≡◌, ℕ, List, filter, Option, None, Some, is_some, refl}
use Rattle.std.specs.Prelude.{nat_lt, not}
use Rattle.aio_base.specs.declared.names.Waker.{Waker}
use Rattle.aio_base.specs.Machine.{end_timer, left_as, moved_on, new_timer, set_clock, set_timer, state_of, tick_timer}
use Rattle.aio_base.specs.Machine as machine
use Rattle.aio_base.specs.TimerWork.{TimerState, joining, reset_work, tick_work}
use Rattle.aio_base.specs.World.{PollerAnswer, TimerEntry, World}
use Rattle.aio_known.specs.Known.{known_of, timers_known}
use Rattle.aio_known.specs.KnownSteps.{Follows, end_at, now_known, registered, set_at, tick_at, timer_made, unregistered, with_timers, worked}
use Rattle.aio_known.proofs.Changing.{follows_either}

pub made_follows : (w : World) (deadline period : Option ℕ) (answers : List PollerAnswer) → Follows (moved_on (new_timer w deadline period answers)) (timer_made (known_of w) deadline period)
made_follows w deadline period answers = record { answer_is = refl; wakes_are = refl; known_is = refl }

left_known : (w : World) (entry : TimerEntry) (id : Option ℕ) (wanted : Option (ℕ × Waker))
    → known_of (left_as (machine.unregistered w id) entry wanted) ≡ with_timers (known_of w) (registered (unregistered (timers_known w) id) entry wanted)
left_known w entry None None = refl
left_known w entry None (Some wanted) = refl
left_known w entry (Some id) None = refl
left_known w entry (Some id) (Some wanted) = refl

worked_known : (w : World) (entry : TimerEntry) (becomes : Option TimerState)
    → known_of (machine.worked w entry becomes) ≡ with_timers (known_of w) (worked (timers_known w) entry becomes)
worked_known w entry None = refl
worked_known w entry (Some timer) =
    left_known w (record entry { deadline = timer.deadline; period = timer.period; id = None; kept = timer.kept }) entry.id (joining timer)

pub tick_follows : (w : World) (waker : Waker) (entry : Option TimerEntry) (answers : List PollerAnswer) → Follows (moved_on (tick_timer w waker entry answers)) (tick_at (known_of w) waker entry)
tick_follows w waker None answers = record { answer_is = refl; wakes_are = refl; known_is = refl }
tick_follows w waker (Some entry) answers =
    record { answer_is = refl; wakes_are = refl; known_is = worked_known w entry (tick_work (is_some entry.id) (state_of entry) w.now waker).becomes }

pub set_follows : (w : World) (deadline : ℕ) (period : Option ℕ) (entry : Option TimerEntry) (answers : List PollerAnswer)
    → Follows (moved_on (set_timer w deadline period entry answers)) (set_at (known_of w) deadline period entry)
set_follows w deadline period None answers = record { answer_is = refl; wakes_are = refl; known_is = refl }
set_follows w deadline period (Some entry) answers =
    record { answer_is = refl; wakes_are = refl; known_is = worked_known w entry (reset_work (state_of entry) deadline period).becomes }

gone_known : (w : World) (entry : TimerEntry) (id : Option ℕ)
    → (let gone = machine.unregistered w id in
    known_of (record gone { timers = filter (λ t. not (machine.is_timer entry.number t)) gone.timers })
    ≡ (let left = unregistered (timers_known w) id in with_timers (known_of w) (record left { entries = filter (λ e. not (machine.is_timer entry.number e)) left.entries })))
gone_known w entry None = refl
gone_known w entry (Some id) = refl

pub end_follows : (w : World) (entry : Option TimerEntry) (answers : List PollerAnswer) → Follows (moved_on (end_timer w entry answers)) (end_at (known_of w) entry)
end_follows w None answers = record { answer_is = refl; wakes_are = refl; known_is = refl }
end_follows w (Some entry) answers = record { answer_is = refl; wakes_are = refl; known_is = gone_known w entry entry.id }

pub now_follows : (w : World) (moment : ℕ) (answers : List PollerAnswer) → Follows (moved_on (set_clock w moment answers)) (now_known (known_of w) moment)
now_follows w moment answers =
    follows_either (nat_lt moment w.now) _ _ _ _ (λ back. record { answer_is = refl; wakes_are = refl; known_is = refl })
    (λ on. record { answer_is = refl; wakes_are = refl; known_is = refl })
