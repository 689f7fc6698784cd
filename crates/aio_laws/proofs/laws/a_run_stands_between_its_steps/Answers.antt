use Rattle.aio_laws.proofs.runs.BetweenSteps.{stands_between, stands_after}
use Rattle.aio_laws.proofs.laws.a_run_stands_between_its_steps.Goals as goal

pub returns-clause-run : goal.returns-clause-run
returns-clause-run c = stands_between

pub returns-clause-trace : goal.returns-clause-trace
returns-clause-trace c = stands_after
