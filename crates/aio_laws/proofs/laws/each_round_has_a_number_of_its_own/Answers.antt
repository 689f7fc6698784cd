use Rattle.aio_laws.proofs.rounds.RoundSteps.{rounds_follow}
use Rattle.aio_laws.proofs.laws.each_round_has_a_number_of_its_own.Goals as goal

pub returns : goal.returns
returns c = rounds_follow
