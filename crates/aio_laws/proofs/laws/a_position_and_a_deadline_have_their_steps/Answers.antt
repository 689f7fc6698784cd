use Rattle.aio_laws.proofs.steps.Owning.{keeps_its_own}
use Rattle.aio_laws.proofs.laws.a_position_and_a_deadline_have_their_steps.Goals as goal

pub returns : goal.returns
returns c = keeps_its_own
