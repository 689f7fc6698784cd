use Rattle.std.proofs.Common.{rules}
use Rattle.aio_commands.proofs.stressing.write_stress.Goals as goal

pub returns-in-Err-clause-written : goal.returns-in-Err-clause-written
returns-in-Err-clause-written g c = search rules

pub returns-in-Err-clause-cause : goal.returns-in-Err-clause-cause
returns-in-Err-clause-cause g c = search rules

pub returns-in-Ok-line_of-clause-written : goal.returns-in-Ok-line_of-clause-written
returns-in-Ok-line_of-clause-written g c = search rules

pub returns-in-Ok-line_of-clause-cause : goal.returns-in-Ok-line_of-clause-cause
returns-in-Ok-line_of-clause-cause g c = search rules

pub returns-clause-written : goal.returns-clause-written
returns-clause-written g c = search rules

pub returns-clause-cause : goal.returns-clause-cause
returns-clause-cause g c = search rules
