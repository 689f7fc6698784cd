use Rattle.aio_laws.proofs.steps.Untouched.{others_stand}
use Rattle.aio_laws.proofs.laws.a_step_leaves_others_alone.Goals as goal

pub returns : goal.returns
returns c = others_stand
