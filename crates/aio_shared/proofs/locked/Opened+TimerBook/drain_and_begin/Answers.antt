use Rattle.aio_shared.proofs.Draining.{untouched_pushed_nothing}
use Rattle.aio_shared.proofs.locked.Opened+TimerBook.drain_and_begin.Goals as goal

pub returns-in-Err-clause-pushed : goal.returns-in-Err-clause-pushed
returns-in-Err-clause-pushed g c = untouched_pushed_nothing _ _ c.in-Err.ensures.refused
