-- The count is that of the wakers.
use Rattle.std.proofs.Common.{ℕ, ◌==◌, ap}
use Rattle.aio_listen.proofs.ListedLemmas.{listed-counted}
use Rattle.aio_listen.proofs.listeners.Listeners.is_empty.Goals as goal

pub returns : goal.returns
returns g c = rw (← c.self.view_is) (ap (λ (n : ℕ). n == 0) (listed-counted _ _ _ _ _ c.self.invariant))
