use Rattle.std.proofs.Common.{rules}
use Rattle.aio_park.proofs.thread.Thread.another.Goals as goal

pub returns-in_default-clause-spent : goal.returns-in_default-clause-spent
returns-in_default-clause-spent g c = search rules

pub returns-in_default-clause-refused : goal.returns-in_default-clause-refused
returns-in_default-clause-refused g c = search rules
