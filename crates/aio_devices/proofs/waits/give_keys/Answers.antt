use Rattle.std.proofs.Common.{rules}
use Rattle.aio_devices.proofs.waits.give_keys.Goals as goal

pub returns-clause-count : goal.returns-clause-count
returns-clause-count c = search rules

pub returns-clause-added : goal.returns-clause-added
returns-clause-added c = search rules

pub returns-clause-capacity : goal.returns-clause-capacity
returns-clause-capacity c = search rules
