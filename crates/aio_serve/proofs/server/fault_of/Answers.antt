use Rattle.std.proofs.Common.{arith}
use Rattle.std.proofs.lemmas.Grind.{common_steps}
use Rattle.aio_serve.proofs.server.fault_of.Goals as goal

pub returns-in-Wait : goal.returns-in-Wait
returns-in-Wait c = grind (arith, common_steps)
