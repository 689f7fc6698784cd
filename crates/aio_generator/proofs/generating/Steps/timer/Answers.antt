use Rattle.std.proofs.Common.{rules}
use Rattle.aio_generator.proofs.generating.Steps.timer.Goals as goal

pub invariant_of-self : goal.invariant_of-self
invariant_of-self c = search rules

pub returns-clause-value : goal.returns-clause-value
returns-clause-value c = search rules

pub returns-clause-left : goal.returns-clause-left
returns-clause-left c = search rules

pub returns-clause-after : goal.returns-clause-after
returns-clause-after c = search rules
