use Rattle.std.proofs.Common.{arith}
use Rattle.std.proofs.lemmas.Grind.{common_steps}
use Rattle.aio_run.proofs.relaying.why_of_relay.Goals as goal

pub returns-in-Ok : goal.returns-in-Ok
returns-in-Ok c = grind (arith, common_steps)

pub returns-in-Err-Bind : goal.returns-in-Err-Bind
returns-in-Err-Bind c = grind (arith, common_steps)

pub returns-in-Err-Output : goal.returns-in-Err-Output
returns-in-Err-Output c = grind (arith, common_steps)

pub returns-in-Err-OutOfMemory : goal.returns-in-Err-OutOfMemory
returns-in-Err-OutOfMemory c = grind (arith, common_steps)
