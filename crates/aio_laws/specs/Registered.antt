-- That a timer which waits is registered: the other way round of that each registration is of a timer.
use Rattle.std.specs.Prelude.{◌≡◌, ◌⊎◌, ℕ, ◌≤◌, List, Some, is_some}
use Rattle.std.specs.List.{All, Contains}
use Rattle.aio_base.specs.declared.names.Waker.{Waker}
use Rattle.aio_base.specs.World.{Registration, TimerEntry, World}

-- A timer that keeps this id waits for its deadline and keeps its waker. It is registered with all three, or a pass took its registration: then its
-- deadline has come.
pub record IsRegistered (now : ℕ) (registrations : List Registration) (timer : TimerEntry) (id : ℕ) : Type 0 where
  pub deadline : ℕ
  pub waker : Waker
  pub waits : timer.deadline ≡ Some deadline
  pub keeps : timer.kept ≡ Some waker
  pub stands : Contains registrations (record { id = id; deadline = deadline; waker = waker }) ⊎ (deadline ≤ now)

pub record TimersAreRegistered (w : World) : Type 0 where
  -- a timer keeps an id where it keeps a waker, and nowhere else
  pub together : All (λ (t : TimerEntry). is_some t.id ≡ is_some t.kept) w.timers
  pub registered : All (λ (t : TimerEntry). (id : ℕ) → t.id ≡ Some id → IsRegistered w.now w.registrations t id) w.timers
  -- each id that is kept was drawn, and by one timer
  pub drawn : All (λ (t : TimerEntry). (id : ℕ) → t.id ≡ Some id → id ≤ w.ids_drawn) w.timers
  pub one : (a b : TimerEntry) → Contains w.timers a → Contains w.timers b → (id : ℕ) → a.id ≡ Some id → b.id ≡ Some id → a.number ≡ b.number
