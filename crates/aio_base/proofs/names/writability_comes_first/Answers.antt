use Rattle.std.proofs.Common.{rules}
use Rattle.aio_base.proofs.names.writability_comes_first.Goals as goal

pub returns-clause-order : goal.returns-clause-order
returns-clause-order c = search rules

pub returns-clause-machine : goal.returns-clause-machine
returns-clause-machine c = search rules
