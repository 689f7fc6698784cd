use Rattle.std.proofs.Common.{arith}
use Rattle.std.proofs.lemmas.Grind.{common_steps}
use Rattle.aio_bytes.proofs.lines.read_behind.Goals as goal

pub returns-clause-call : goal.returns-clause-call
returns-clause-call g c = grind (arith, common_steps)

pub returns-clause-front : goal.returns-clause-front
returns-clause-front g c = grind (arith, common_steps)

pub returns-clause-bytes : goal.returns-clause-bytes
returns-clause-bytes g c = grind (arith, common_steps)
