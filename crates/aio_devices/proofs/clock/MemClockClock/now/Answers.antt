use Rattle.std.proofs.Common.{rules}
use Rattle.aio_devices.proofs.clock.MemClockClock.now.Goals as goal

pub returns-else-self-len-clause-after : goal.returns-else-self-len-clause-after
returns-else-self-len-clause-after c = search rules
