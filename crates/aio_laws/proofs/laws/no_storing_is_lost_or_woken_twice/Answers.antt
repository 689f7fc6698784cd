use Rattle.aio_laws.proofs.storings.OnceRuns.{run_once}
use Rattle.aio_laws.proofs.laws.no_storing_is_lost_or_woken_twice.Goals as goal

pub returns : goal.returns
returns c = run_once
