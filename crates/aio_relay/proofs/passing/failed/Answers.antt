use Rattle.std.proofs.Common.{arith}
use Rattle.std.proofs.lemmas.Grind.{common_steps}
use Rattle.aio_relay.proofs.passing.failed.Goals as goal

pub returns-in-Read : goal.returns-in-Read
returns-in-Read c = grind (arith, common_steps)
