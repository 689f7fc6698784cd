use Rattle.aio_tasks.proofs.TaskLemmas.{wake_is_told}
use Rattle.aio_tasks.proofs.laws.a_wake_is_told_by_its_name.Goals as goal

pub returns : goal.returns
returns c = wake_is_told
