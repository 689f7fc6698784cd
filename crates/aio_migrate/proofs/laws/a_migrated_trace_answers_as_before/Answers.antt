use Rattle.aio_migrate.proofs.TraceSteps.{answers_as_before}
use Rattle.aio_migrate.proofs.laws.a_migrated_trace_answers_as_before.Goals as goal

pub returns : goal.returns
returns c = answers_as_before
