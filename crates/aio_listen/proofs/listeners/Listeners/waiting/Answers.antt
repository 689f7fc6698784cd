-- The count is that of the wakers, of which there are no more than places.
use Rattle.std.proofs.Common.{arith}
use Rattle.aio_listen.proofs.ListedLemmas.{listed-counted, waiting-small}
use Rattle.aio_listen.proofs.listeners.Listeners.waiting.Goals as goal

pub returns-clause-value : goal.returns-clause-value
returns-clause-value g c = rw (← c.self.view_is) (listed-counted _ _ _ _ _ c.self.invariant)

pub returns-clause-bound : goal.returns-clause-bound
returns-clause-bound g c = omega (arith, waiting-small _ _ _ _ _ c.self.invariant)
