use Rattle.std.proofs.Common.{ap}
use Rattle.aio_rules.proofs.RoundLockSteps.{claim_starts}
use Rattle.aio_shared.specs.Cells.{CellSays, IsIdle}
use Rattle.aio_shared.proofs.Claiming.{opens}
use Rattle.aio_shared.proofs.round_lock.RoundLock.new.Goals as goal

pub ruled-requires-clause-rule : goal.ruled-requires-clause-rule
ruled-requires-clause-rule g c = claim_starts CellSays IsIdle _

pub try_push_as-requires-clause-rule : goal.try_push_as-requires-clause-rule
try_push_as-requires-clause-rule g c = opens _ _ _ _ _ (ap (λ v. v.opening) c.in-Ok.ensures.3) c.requires.0 c.requires.1
