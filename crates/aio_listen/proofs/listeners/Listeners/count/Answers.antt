-- There are as many nodes as entries, and no more than places.
use Rattle.std.proofs.Common.{◌∙◌, arith}
use Rattle.aio_listen.proofs.ListedLemmas.{listed-length, listed-small, listed-rises}
use Rattle.aio_listen.proofs.listeners.Listeners.count.Goals as goal

pub returns-clause-value : goal.returns-clause-value
returns-clause-value g c = rw (← c.self.view_is) (c.len.ensures ∙ listed-length _ _ _ _ _ c.self.invariant)

pub returns-clause-bound : goal.returns-clause-bound
returns-clause-bound g c = omega (arith, c.len.ensures, listed-small _ _ _ _ _ c.self.invariant)

pub returns-clause-order : goal.returns-clause-order
returns-clause-order g c = rw (← c.self.view_is) (listed-rises _ _ _ _ _ c.self.invariant)
