use Rattle.aio_laws.proofs.steps.Readying.{ready_is_told}
use Rattle.aio_laws.proofs.laws.a_step_is_ready_exactly_where_what_it_polls_is.Goals as goal

pub returns : goal.returns
returns c = ready_is_told
