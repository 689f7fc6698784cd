use Rattle.std.proofs.Common.{arith}
use Rattle.std.proofs.lemmas.Grind.{common_steps}
use Rattle.aio_pairs.proofs.backlogs.is_ended.Goals as goal

pub returns-in-Ready-Ok-eq0 : goal.returns-in-Ready-Ok-eq0
returns-in-Ready-Ok-eq0 c = grind (arith, common_steps)

pub returns-in-Ready-Ok : goal.returns-in-Ready-Ok
returns-in-Ready-Ok c = grind (arith, common_steps)

pub returns-in-Ready-Err : goal.returns-in-Ready-Err
returns-in-Ready-Err c = grind (arith, common_steps)

pub returns-in-Pending : goal.returns-in-Pending
returns-in-Pending c = grind (arith, common_steps)
