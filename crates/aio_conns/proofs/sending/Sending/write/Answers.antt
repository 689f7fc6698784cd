use Rattle.std.proofs.Common.{rules}
use Rattle.aio_conns.proofs.sending.Sending.write.Goals as goal

pub returns-then-count-eq0-clause-writes : goal.returns-then-count-eq0-clause-writes
returns-then-count-eq0-clause-writes c = search rules

pub returns-then-count-eq0-clause-never : goal.returns-then-count-eq0-clause-never
returns-then-count-eq0-clause-never c = search rules

pub invariant_of-self : goal.invariant_of-self
invariant_of-self c = search rules

pub returns-clause-writes : goal.returns-clause-writes
returns-clause-writes c = search rules

pub returns-clause-never : goal.returns-clause-never
returns-clause-never c = search rules
