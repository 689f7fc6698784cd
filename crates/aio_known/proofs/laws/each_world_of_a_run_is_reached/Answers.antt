use Rattle.aio_known.proofs.KnownLaw.{run_is_reached}
use Rattle.aio_known.proofs.laws.each_world_of_a_run_is_reached.Goals as goal

pub returns : goal.returns
returns c = run_is_reached
