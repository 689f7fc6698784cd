use Rattle.aio_laws.proofs.storings.Following.{step_follows, run_follows}
use Rattle.aio_laws.proofs.laws.storings_follow_from_step_to_step.Goals as goal

pub returns-clause-step : goal.returns-clause-step
returns-clause-step c = step_follows

pub returns-clause-run : goal.returns-clause-run
returns-clause-run c = run_follows
