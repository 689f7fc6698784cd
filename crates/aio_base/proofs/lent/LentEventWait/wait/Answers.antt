use Rattle.std.proofs.Common.{rules}
use Rattle.aio_base.proofs.lent.LentEventWait.wait.Goals as goal

pub returns-clause-added : goal.returns-clause-added
returns-clause-added g c = search rules

pub returns-clause-capacity : goal.returns-clause-capacity
returns-clause-capacity g c = search rules

pub returns-clause-waits : goal.returns-clause-waits
returns-clause-waits g c = search rules

pub returns-clause-faults : goal.returns-clause-faults
returns-clause-faults g c = search rules
