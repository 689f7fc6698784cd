use Rattle.aio_pairs.proofs.PassingLemmas.{ok-joins}
use Rattle.aio_pairs.proofs.laws.polls_join.Goals as goal

pub returns : goal.returns
returns c = ok-joins
