use Rattle.std.proofs.Common.{inr, refl}
use Rattle.aio_future.proofs.visits.TryDirVisit.visit.Goals as goal

pub returns-clause-visits : goal.returns-clause-visits
returns-clause-visits g c = (
  refl,
  refl,
  inr (c.try_once.new.attempt, c.try_once.new.cell, c.in_default.ensures.tries, c.in-Some-try_once.ensures.tries),
)
