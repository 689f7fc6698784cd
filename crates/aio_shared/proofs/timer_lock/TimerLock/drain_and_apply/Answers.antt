use Rattle.std.proofs.Common.{rules}
use Rattle.aio_shared.proofs.timer_lock.TimerLock.drain_and_apply.Goals as goal

pub returns-clause-applies : goal.returns-clause-applies
returns-clause-applies g c = search rules
