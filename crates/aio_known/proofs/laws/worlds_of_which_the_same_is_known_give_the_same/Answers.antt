use Rattle.aio_known.proofs.KnownLaw.{steps_alike}
use Rattle.aio_known.proofs.laws.worlds_of_which_the_same_is_known_give_the_same.Goals as goal

pub returns : goal.returns
returns c = steps_alike
