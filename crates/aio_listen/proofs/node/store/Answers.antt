use Rattle.std.proofs.Common.{rules}
use Rattle.aio_listen.proofs.node.store.Goals as goal

pub returns-clause-nodes : goal.returns-clause-nodes
returns-clause-nodes g c = search rules

pub returns-clause-first : goal.returns-clause-first
returns-clause-first g c = search rules
