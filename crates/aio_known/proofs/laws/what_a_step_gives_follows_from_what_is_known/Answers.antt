use Rattle.aio_known.proofs.KnownLaw.{step_follows_known}
use Rattle.aio_known.proofs.laws.what_a_step_gives_follows_from_what_is_known.Goals as goal

pub returns : goal.returns
returns c = step_follows_known
