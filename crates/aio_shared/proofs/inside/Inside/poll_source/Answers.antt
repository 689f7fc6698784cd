use Rattle.aio_shared.proofs.Leaving.{works_alike}
use Rattle.aio_shared.proofs.inside.Inside.poll_source.Goals as goal

pub returns-clause-polls : goal.returns-clause-polls
returns-clause-polls g c = works_alike _ _ _ _ _ (λ found ticker polled put visits. visits.1) _ _ _ _ _ c.visit_source.ensures.works
