use Rattle.std.proofs.Common.{arith}
use Rattle.std.proofs.lemmas.Grind.{common_steps}
use Rattle.aio_react.proofs.reactor.listeners.told_first.Goals as goal

pub returns-in-Err-ArmFault : goal.returns-in-Err-ArmFault
returns-in-Err-ArmFault c = grind (arith, common_steps)
