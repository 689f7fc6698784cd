use Rattle.aio_ops.proofs.Steps.{pops}
use Rattle.aio_ops.proofs.ops.Ops.pop.Goals as goal

pub pop_as-requires-clause-rule : goal.pop_as-requires-clause-rule
pop_as-requires-clause-rule g c = (pops _ _, λ items seats rule stands. tt)
