use Rattle.std.proofs.Common.{rules}
use Rattle.aio_future.proofs.visits.PollDirVisit.visit.Goals as goal

pub returns-clause-visits : goal.returns-clause-visits
returns-clause-visits g c = search rules

pub returns-clause-arm : goal.returns-clause-arm
returns-clause-arm g c = search rules

pub returns-clause-key : goal.returns-clause-key
returns-clause-key g c = search rules
