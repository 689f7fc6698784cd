use Rattle.aio_rules.proofs.OperationOrder.{drained_has_none_queued, drained_stays}
use Rattle.aio_rules.specs.contracts.operation_laws.a_pass_that_drained_has_nothing_queued.{O-type}
use Rattle.aio_rules.proofs.operation_laws.a_pass_that_drained_has_nothing_queued.Goals as goal

pub returns-clause-none : goal.returns-clause-none
returns-clause-none g c = drained_has_none_queued (O-type g.row.O)

pub returns-clause-stays : goal.returns-clause-stays
returns-clause-stays g c = drained_stays (O-type g.row.O)
