use Rattle.std.proofs.Common.{arith}
use Rattle.std.proofs.lemmas.Grind.{common_steps}
use Rattle.aio_timers.proofs.merge.is_before.Goals as goal

pub returns-then-own-limit : goal.returns-then-own-limit
returns-then-own-limit c = grind (arith, common_steps)

pub returns : goal.returns
returns c = grind (arith, common_steps)
