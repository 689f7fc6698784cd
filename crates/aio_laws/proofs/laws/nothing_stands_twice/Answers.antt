use Rattle.aio_laws.proofs.runs.Singles.{run_has_no_doubles}
use Rattle.aio_laws.proofs.laws.nothing_stands_twice.Goals as goal

pub returns : goal.returns
returns c = run_has_no_doubles
