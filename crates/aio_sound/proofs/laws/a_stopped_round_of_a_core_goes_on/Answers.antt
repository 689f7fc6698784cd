use Rattle.aio_sound.proofs.StoppedRounds.{stopped_from}
use Rattle.aio_sound.proofs.laws.a_stopped_round_of_a_core_goes_on.Goals as goal

pub returns : goal.returns
returns g c given now old new w = stopped_from _ _ given now old new w
