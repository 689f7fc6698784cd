use Rattle.std.proofs.Common.{arith}
use Rattle.std.proofs.lemmas.Grind.{common_steps}
use Rattle.aio_react.proofs.round.Round.keep.Goals as goal

pub returns-then-is_none : goal.returns-then-is_none
returns-then-is_none c = grind (arith, common_steps)

pub returns-else-is_none : goal.returns-else-is_none
returns-else-is_none c = grind (arith, common_steps)
