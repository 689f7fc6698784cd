use Rattle.std.proofs.Common.{arith}
use Rattle.std.proofs.lemmas.Grind.{common_steps}
use Rattle.aio_line.proofs.texts.push_pair.Goals as goal

pub returns-in_err-push_outcome-clause-kept : goal.returns-in_err-push_outcome-clause-kept
returns-in_err-push_outcome-clause-kept c = grind (arith, common_steps)

pub returns-in_err-push-2-clause-kept : goal.returns-in_err-push-2-clause-kept
returns-in_err-push-2-clause-kept c = grind (arith, common_steps)

pub returns-clause-ok : goal.returns-clause-ok
returns-clause-ok c = grind (arith, common_steps)
