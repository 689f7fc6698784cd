use Rattle.aio_migrate.proofs.TraceSteps.{is_valid}
use Rattle.aio_migrate.proofs.laws.a_migrated_trace_is_valid.Goals as goal

pub returns : goal.returns
returns c = is_valid
