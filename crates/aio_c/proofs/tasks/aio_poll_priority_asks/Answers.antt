use Rattle.std.proofs.Common.{rules}
use Rattle.aio_c.proofs.tasks.aio_poll_priority_asks.Goals as goal

pub returns-clause-asks : goal.returns-clause-asks
returns-clause-asks c = search rules

pub returns-clause-same : goal.returns-clause-same
returns-clause-same c = search rules
