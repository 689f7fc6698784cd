-- That the listeners of a world which were polled stand in the order of their first polls.
use Rattle.std.specs.Prelude.{◌≡◌, ℕ, ◌<◌, Some, None}
use Rattle.std.specs.List.{All, AllPairs}
use Rattle.aio_base.specs.World.{ListenerEntry, World}

-- of two listeners that were both polled, the one was polled before the other
abbrev pub IsPolledBefore : ListenerEntry → ListenerEntry → Type 0
IsPolledBefore first later = (p q : ℕ) → first.position ≡ Some p → later.position ≡ Some q → p < q

pub record InPollOrder (w : World) : Type 0 where
  -- those that were polled stand by rising position
  pub rising : AllPairs IsPolledBefore w.listeners
  -- a position is that of a step that was run
  pub past : All (λ (l : ListenerEntry). (p : ℕ) → l.position ≡ Some p → p < w.pos) w.listeners
  -- a listener that was never polled holds no waker
  pub unpolled : All (λ (l : ListenerEntry). l.position ≡ None → l.waker ≡ None) w.listeners
