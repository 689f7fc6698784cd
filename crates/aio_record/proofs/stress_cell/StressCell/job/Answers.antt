use Rattle.std.proofs.Common.{arith}
use Rattle.std.proofs.lemmas.Grind.{common_steps}
use Rattle.aio_record.proofs.stress_cell.StressCell.job.Goals as goal

pub returns-in-Second-clause-maker : goal.returns-in-Second-clause-maker
returns-in-Second-clause-maker c = grind (arith, common_steps)
