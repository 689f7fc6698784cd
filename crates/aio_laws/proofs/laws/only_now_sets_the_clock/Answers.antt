use Rattle.aio_laws.proofs.rounds.RoundSteps.{clock_is_set}
use Rattle.aio_laws.proofs.laws.only_now_sets_the_clock.Goals as goal

pub returns : goal.returns
returns c = clock_is_set
