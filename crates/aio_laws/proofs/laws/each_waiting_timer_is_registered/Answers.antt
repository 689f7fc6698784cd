use Rattle.aio_laws.proofs.timers.Awaiting.{run_waits_for_timers}
use Rattle.aio_laws.proofs.laws.each_waiting_timer_is_registered.Goals as goal

pub returns : goal.returns
returns c = run_waits_for_timers
