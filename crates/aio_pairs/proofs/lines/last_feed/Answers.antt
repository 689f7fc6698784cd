use Rattle.aio_pairs.proofs.SearchLemmas.{found, not-found}
use Rattle.aio_pairs.proofs.lines.last_feed.Goals as goal

pub returns-in-Some : goal.returns-in-Some
returns-in-Some c = found _ _ _ _ c.requires.order c.requires.within c.in-Some.ensures

pub returns-in-None : goal.returns-in-None
returns-in-None c = not-found _ _ _ c.requires.order c.requires.within c.in-None.ensures
