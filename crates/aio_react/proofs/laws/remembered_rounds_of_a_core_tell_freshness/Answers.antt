use Rattle.aio_react.proofs.sources.FreshCores.{ready_tells, above_tells}
use Rattle.aio_react.proofs.laws.remembered_rounds_of_a_core_tell_freshness.Goals as goal

pub returns-clause-poll : goal.returns-clause-poll
returns-clause-poll c = ready_tells

pub returns-clause-listener : goal.returns-clause-listener
returns-clause-listener c = above_tells
