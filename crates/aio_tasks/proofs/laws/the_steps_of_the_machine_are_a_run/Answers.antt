use Rattle.aio_tasks.proofs.RunLemmas.{run_of_made}
use Rattle.aio_tasks.proofs.laws.the_steps_of_the_machine_are_a_run.Goals as goal

pub returns : goal.returns
returns c = run_of_made
