use Rattle.std.proofs.Common.{rules}
use Rattle.aio_listen.proofs.node.take_waker.Goals as goal

pub returns-clause-waker : goal.returns-clause-waker
returns-clause-waker g c = search rules

pub returns-clause-next : goal.returns-clause-next
returns-clause-next g c = search rules

pub returns-clause-nodes : goal.returns-clause-nodes
returns-clause-nodes g c = search rules
