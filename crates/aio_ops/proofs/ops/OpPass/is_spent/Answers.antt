use Rattle.std.proofs.Common.{arith}
use Rattle.std.proofs.lemmas.Grind.{common_steps}
use Rattle.aio_ops.proofs.ops.OpPass.is_spent.Goals as goal

pub returns : goal.returns
returns c = grind (arith, common_steps)
