use Rattle.aio_shared.proofs.Claiming.{pops}
use Rattle.aio_shared.proofs.round_lock.RoundLock.pop.Goals as goal

pub pop_as-requires-clause-rule : goal.pop_as-requires-clause-rule
pop_as-requires-clause-rule g c = (pops _ _, λ items claims rule stands. tt)
