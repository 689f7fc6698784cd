use Rattle.std.proofs.Common.{rules}
use Rattle.aio_conns.proofs.ports.MemPortPort.bind.Goals as goal

pub returns-then-port-eq0-clause-port : goal.returns-then-port-eq0-clause-port
returns-then-port-eq0-clause-port c = search rules

pub returns-then-port-eq0-clause-done : goal.returns-then-port-eq0-clause-done
returns-then-port-eq0-clause-done c = search rules

pub returns-then-port-eq0-clause-stays : goal.returns-then-port-eq0-clause-stays
returns-then-port-eq0-clause-stays c = search rules

pub returns-else-port-eq0-clause-port : goal.returns-else-port-eq0-clause-port
returns-else-port-eq0-clause-port c = search rules

pub returns-else-port-eq0-clause-done : goal.returns-else-port-eq0-clause-done
returns-else-port-eq0-clause-done c = search rules

pub returns-else-port-eq0-clause-stays : goal.returns-else-port-eq0-clause-stays
returns-else-port-eq0-clause-stays c = search rules
