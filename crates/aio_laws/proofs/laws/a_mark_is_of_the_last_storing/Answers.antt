use Rattle.aio_laws.proofs.steps.Marking.{marks_follow}
use Rattle.aio_laws.proofs.laws.a_mark_is_of_the_last_storing.Goals as goal

pub returns : goal.returns
returns c = marks_follow
