use Rattle.aio_tasks.proofs.TaskLemmas.{stay_apart}
use Rattle.aio_tasks.specs.Tasks.{opening2}
use Rattle.aio_tasks.proofs.laws.each_name_is_of_one_waker.Goals as goal

pub returns : goal.returns
returns c = λ steps. stay_apart steps opening2 tt
