use Rattle.std.proofs.Common.{rules}
use Rattle.aio_devices.proofs.notify.FailingNotifyNotify.notify.Goals as goal

pub returns-clause-step : goal.returns-clause-step
returns-clause-step c = search rules

pub returns-clause-calls : goal.returns-clause-calls
returns-clause-calls c = search rules

pub returns-clause-faults : goal.returns-clause-faults
returns-clause-faults c = search rules
