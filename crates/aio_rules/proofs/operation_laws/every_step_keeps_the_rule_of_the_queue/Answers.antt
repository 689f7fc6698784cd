use Rattle.aio_rules.proofs.OperationRules.{push_keeps_queue_rule, full_push_keeps_queue_rule, pop_keeps_queue_rule, empty_pop_keeps_queue_rule, new_pass_keeps_queue_rule}
use Rattle.aio_rules.specs.contracts.operation_laws.every_step_keeps_the_rule_of_the_queue.{O-type}
use Rattle.aio_rules.proofs.operation_laws.every_step_keeps_the_rule_of_the_queue.Goals as goal

pub returns-clause-push : goal.returns-clause-push
returns-clause-push g c = push_keeps_queue_rule (O-type g.row.O)

pub returns-clause-full_push : goal.returns-clause-full_push
returns-clause-full_push g c = full_push_keeps_queue_rule (O-type g.row.O)

pub returns-clause-pop : goal.returns-clause-pop
returns-clause-pop g c = pop_keeps_queue_rule (O-type g.row.O)

pub returns-clause-empty_pop : goal.returns-clause-empty_pop
returns-clause-empty_pop g c = empty_pop_keeps_queue_rule (O-type g.row.O)

pub returns-clause-new_pass : goal.returns-clause-new_pass
returns-clause-new_pass g c = new_pass_keeps_queue_rule (O-type g.row.O)
