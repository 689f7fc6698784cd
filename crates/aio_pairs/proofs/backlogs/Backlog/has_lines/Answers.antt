use Rattle.std.proofs.Common.{rules, arith}
use Rattle.std.proofs.lemmas.Grind.{common_steps}
use Rattle.aio_pairs.proofs.backlogs.Backlog.has_lines.Goals as goal

pub returns-clause-some : goal.returns-clause-some
returns-clause-some c = search rules

pub returns-clause-none : goal.returns-clause-none
returns-clause-none c = grind (arith, common_steps)
