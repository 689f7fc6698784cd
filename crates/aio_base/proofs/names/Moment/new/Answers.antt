use Rattle.std.proofs.Common.{rules, arith}
use Rattle.std.proofs.lemmas.Grind.{common_steps}
use Rattle.aio_base.proofs.names.Moment.new.Goals as goal

pub invariant_of-result : goal.invariant_of-result
invariant_of-result c = search rules

pub returns-then-n-le1000000000000000000 : goal.returns-then-n-le1000000000000000000
returns-then-n-le1000000000000000000 c = grind (arith, common_steps)

pub returns-else-n-le1000000000000000000 : goal.returns-else-n-le1000000000000000000
returns-else-n-le1000000000000000000 c = grind (arith, common_steps)
