use Rattle.aio_laws.proofs.timers.FiringOrder.{fires_by_deadline, ordered_fires, pass_fires}
use Rattle.aio_laws.proofs.laws.registrations_fire_in_order.Goals as goal

pub returns-clause-before : goal.returns-clause-before
returns-clause-before c = fires_by_deadline

pub returns-clause-ordered : goal.returns-clause-ordered
returns-clause-ordered c = ordered_fires

pub returns-clause-taken : goal.returns-clause-taken
returns-clause-taken c = pass_fires
