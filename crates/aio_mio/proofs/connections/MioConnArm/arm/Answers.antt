use Rattle.std.proofs.Common.{rules}
use Rattle.aio_mio.proofs.connections.MioConnArm.arm.Goals as goal

pub returns-clause-step : goal.returns-clause-step
returns-clause-step c = search rules

pub returns-clause-interests : goal.returns-clause-interests
returns-clause-interests c = search rules

pub returns-clause-rest : goal.returns-clause-rest
returns-clause-rest c = search rules

pub returns-clause-faults : goal.returns-clause-faults
returns-clause-faults c = search rules
