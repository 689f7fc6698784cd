use Rattle.std.proofs.Common.{arith}
use Rattle.std.proofs.lemmas.Grind.{common_steps}
use Rattle.aio_c.proofs.answers.dir_of.Goals as goal

pub returns-then-write : goal.returns-then-write
returns-then-write c = grind (arith, common_steps)

pub returns-else-write : goal.returns-else-write
returns-else-write c = grind (arith, common_steps)
