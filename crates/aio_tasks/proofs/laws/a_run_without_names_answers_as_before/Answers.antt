use Rattle.aio_tasks.proofs.RunLemmas.{plain_as_before}
use Rattle.aio_tasks.proofs.laws.a_run_without_names_answers_as_before.Goals as goal

pub returns : goal.returns
returns c = plain_as_before
