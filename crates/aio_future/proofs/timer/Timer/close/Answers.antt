use Rattle.std.proofs.Common.{rules}
use Rattle.aio_future.proofs.timer.Timer.close.Goals as goal

pub returns-in-Ok-clause-closed : goal.returns-in-Ok-clause-closed
returns-in-Ok-clause-closed g c = search rules
