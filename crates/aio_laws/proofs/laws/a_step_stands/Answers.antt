use Rattle.aio_laws.proofs.runs.BetweenSteps.{step_stands}
use Rattle.aio_laws.proofs.laws.a_step_stands.Goals as goal

pub returns : goal.returns
returns c = step_stands
