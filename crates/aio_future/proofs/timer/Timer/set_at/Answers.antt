use Rattle.std.proofs.Common.{rules}
use Rattle.aio_future.proofs.timer.Timer.set_at.Goals as goal

pub returns-clause-worked : goal.returns-clause-worked
returns-clause-worked g c = search rules

pub returns-clause-sound : goal.returns-clause-sound
returns-clause-sound g c = search rules
