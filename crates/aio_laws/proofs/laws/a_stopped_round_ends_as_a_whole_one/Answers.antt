use Rattle.aio_laws.proofs.rounds.Resuming.{goes_on}
use Rattle.aio_laws.proofs.laws.a_stopped_round_ends_as_a_whole_one.Goals as goal

pub returns : goal.returns
returns c = goes_on
