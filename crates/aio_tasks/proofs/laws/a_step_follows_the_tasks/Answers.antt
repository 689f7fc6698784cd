use Rattle.aio_tasks.proofs.TaskLemmas.{step_follows}
use Rattle.aio_tasks.proofs.laws.a_step_follows_the_tasks.Goals as goal

pub returns : goal.returns
returns c = step_follows
