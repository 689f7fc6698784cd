use Rattle.std.proofs.Common.{arith}
use Rattle.std.proofs.lemmas.Grind.{common_steps}
use Rattle.aio_commands.proofs.replaying.cause_of.Goals as goal

pub returns-in-Done : goal.returns-in-Done
returns-in-Done c = grind (arith, common_steps)

pub returns-in-Refused : goal.returns-in-Refused
returns-in-Refused c = grind (arith, common_steps)

pub returns-in-ReadFault : goal.returns-in-ReadFault
returns-in-ReadFault c = grind (arith, common_steps)

pub returns-in-WriteFault : goal.returns-in-WriteFault
returns-in-WriteFault c = grind (arith, common_steps)

pub returns-in-OutOfMemory : goal.returns-in-OutOfMemory
returns-in-OutOfMemory c = grind (arith, common_steps)
