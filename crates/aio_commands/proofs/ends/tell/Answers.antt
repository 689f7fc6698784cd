use Rattle.std.proofs.Common.{rules}
use Rattle.aio_commands.proofs.ends.tell.Goals as goal

pub returns-in-Refused-clause-written : goal.returns-in-Refused-clause-written
returns-in-Refused-clause-written g c = search rules

pub returns-in-Refused-clause-refused : goal.returns-in-Refused-clause-refused
returns-in-Refused-clause-refused g c = search rules
