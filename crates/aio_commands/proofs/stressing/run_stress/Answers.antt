use Rattle.std.proofs.Common.{rules}
use Rattle.aio_commands.proofs.stressing.run_stress.Goals as goal

pub returns-clause-writes : goal.returns-clause-writes
returns-clause-writes g c = search rules

pub returns-clause-counts : goal.returns-clause-counts
returns-clause-counts g c = search rules

pub returns-clause-cause : goal.returns-clause-cause
returns-clause-cause g c = search rules

pub returns-clause-spawner : goal.returns-clause-spawner
returns-clause-spawner g c = search rules
