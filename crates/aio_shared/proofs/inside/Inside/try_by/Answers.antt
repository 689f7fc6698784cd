use Rattle.aio_shared.proofs.Leaving.{visits_alike}
use Rattle.aio_shared.proofs.inside.Inside.try_by.Goals as goal

pub returns-clause-tries : goal.returns-clause-tries
returns-clause-tries g c = visits_alike _ _ _ (λ found ticker tried put both. (both.0, both.1.2)) _ _ _ _ _ c.enter_and_leave.ensures.visits

pub returns-clause-lent : goal.returns-clause-lent
returns-clause-lent g c = c.enter_and_leave.ensures.visits.visited.1.0
