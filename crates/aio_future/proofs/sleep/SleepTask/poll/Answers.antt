use Rattle.std.proofs.Common.{rules}
use Rattle.aio_future.proofs.sleep.SleepTask.poll.Goals as goal

pub returns-clause-ready : goal.returns-clause-ready
returns-clause-ready g c = search rules

pub returns-clause-pending : goal.returns-clause-pending
returns-clause-pending g c = search rules

pub returns-clause-step : goal.returns-clause-step
returns-clause-step g c = search rules

pub returns-clause-polls : goal.returns-clause-polls
returns-clause-polls g c = search rules

pub returns-clause-host : goal.returns-clause-host
returns-clause-host g c = search rules
