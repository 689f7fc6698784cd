use Rattle.aio_laws.proofs.steps.Drawing.{draws_follow}
use Rattle.aio_laws.proofs.laws.no_number_and_no_event_is_left_out.Goals as goal

pub returns : goal.returns
returns c = draws_follow
