use Rattle.aio_shared.proofs.Claiming.{makes}
use Rattle.aio_shared.proofs.round_lock.RoundLock.member.Goals as goal

pub another-requires-clause-rule : goal.another-requires-clause-rule
another-requires-clause-rule g c = makes _ _ c.from.invariant.1
