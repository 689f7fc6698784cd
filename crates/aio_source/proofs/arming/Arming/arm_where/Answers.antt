use Rattle.std.proofs.Common.{rules}
use Rattle.aio_source.proofs.arming.Arming.arm_where.Goals as goal

pub returns-clause-fault : goal.returns-clause-fault
returns-clause-fault g c = search rules

pub returns-then-is_ok-clause-asked : goal.returns-then-is_ok-clause-asked
returns-then-is_ok-clause-asked g c = search rules

pub returns-then-is_ok-clause-lent : goal.returns-then-is_ok-clause-lent
returns-then-is_ok-clause-lent g c = search rules

pub returns-clause-lent : goal.returns-clause-lent
returns-clause-lent g c = search rules
