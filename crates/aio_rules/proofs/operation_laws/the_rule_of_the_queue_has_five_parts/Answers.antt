use Rattle.aio_rules.proofs.OperationParts.{rule_has_its_parts}
use Rattle.aio_rules.specs.contracts.operation_laws.the_rule_of_the_queue_has_five_parts.{O-type}
use Rattle.aio_rules.proofs.operation_laws.the_rule_of_the_queue_has_five_parts.Goals as goal

pub returns : goal.returns
returns g c = rule_has_its_parts (O-type g.row.O)
