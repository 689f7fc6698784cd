use Rattle.std.proofs.Common.{rules}
use Rattle.aio_generator.proofs.generating.Steps.hand.Goals as goal

pub returns-in-1-to-4-clause-taken : goal.returns-in-1-to-4-clause-taken
returns-in-1-to-4-clause-taken g c = search rules

pub returns-in-5-clause-after : goal.returns-in-5-clause-after
returns-in-5-clause-after g c = search rules

pub returns-in-11-clause-taken : goal.returns-in-11-clause-taken
returns-in-11-clause-taken g c = search rules

pub returns-in-11-clause-after : goal.returns-in-11-clause-after
returns-in-11-clause-after g c = search rules
