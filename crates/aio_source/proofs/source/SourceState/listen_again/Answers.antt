use Rattle.std.proofs.Common.{rules}
use Rattle.aio_source.proofs.source.SourceState.listen_again.Goals as goal

pub returns-then-ready_since-clause-answer : goal.returns-then-ready_since-clause-answer
returns-then-ready_since-clause-answer g c = search rules

pub returns-then-ready_since-clause-after : goal.returns-then-ready_since-clause-after
returns-then-ready_since-clause-after g c = search rules

pub returns-then-ready_since-clause-lent : goal.returns-then-ready_since-clause-lent
returns-then-ready_since-clause-lent g c = search rules
