use Rattle.aio_laws.proofs.cover.CoverRuns.{run_covers, run_waits_for_live}
use Rattle.aio_laws.proofs.laws.every_waiter_is_covered.Goals as goal

pub returns-clause-covered : goal.returns-clause-covered
returns-clause-covered c = run_covers

pub returns-clause-live : goal.returns-clause-live
returns-clause-live c = run_waits_for_live
