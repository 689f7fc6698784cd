use Rattle.aio_laws.proofs.rounds.Noting.{handled_is_noted}
use Rattle.aio_laws.proofs.laws.a_handled_event_is_noted.Goals as goal

pub returns : goal.returns
returns c = handled_is_noted
