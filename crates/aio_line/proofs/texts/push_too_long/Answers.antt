use Rattle.std.proofs.Common.{arith, rules}
use Rattle.std.proofs.lemmas.Grind.{common_steps}
use Rattle.aio_line.proofs.texts.push_too_long.Goals as goal

pub returns-in-A-clause-ok : goal.returns-in-A-clause-ok
returns-in-A-clause-ok c = grind (arith, common_steps)

pub returns-in-A-clause-kept : goal.returns-in-A-clause-kept
returns-in-A-clause-kept c = search rules

pub returns-in-B-clause-ok : goal.returns-in-B-clause-ok
returns-in-B-clause-ok c = grind (arith, common_steps)

pub returns-in-B-clause-kept : goal.returns-in-B-clause-kept
returns-in-B-clause-kept c = search rules
