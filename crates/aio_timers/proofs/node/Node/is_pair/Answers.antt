use Rattle.std.proofs.Common.{arith}
use Rattle.std.proofs.lemmas.Grind.{common_steps}
use Rattle.aio_timers.proofs.node.Node.is_pair.Goals as goal

pub returns-then-self-id : goal.returns-then-self-id
returns-then-self-id c = grind (arith, common_steps)

pub returns-else-self-id : goal.returns-else-self-id
returns-else-self-id c = grind (arith, common_steps)
