use Rattle.aio_rules.proofs.OperationOrder.{push_stays_in_order, pop_stays_in_order, own_application_stays_in_order}
use Rattle.aio_rules.specs.contracts.operation_laws.operations_are_applied_in_the_order_of_the_calls.{O-type}
use Rattle.aio_rules.proofs.operation_laws.operations_are_applied_in_the_order_of_the_calls.Goals as goal

pub returns-clause-push : goal.returns-clause-push
returns-clause-push g c = push_stays_in_order (O-type g.row.O)

pub returns-clause-pop : goal.returns-clause-pop
returns-clause-pop g c = pop_stays_in_order (O-type g.row.O)

pub returns-clause-own : goal.returns-clause-own
returns-clause-own g c = own_application_stays_in_order (O-type g.row.O)
