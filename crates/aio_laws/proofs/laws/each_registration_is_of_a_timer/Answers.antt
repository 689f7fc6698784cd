use Rattle.aio_laws.proofs.runs.Singles.{run_registers_timers}
use Rattle.aio_laws.proofs.laws.each_registration_is_of_a_timer.Goals as goal

pub returns : goal.returns
returns c = run_registers_timers
