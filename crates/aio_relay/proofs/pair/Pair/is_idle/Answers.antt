use Rattle.std.proofs.Common.{rules}
use Rattle.aio_relay.proofs.pair.Pair.is_idle.Goals as goal

pub returns-clause-not_yet : goal.returns-clause-not_yet
returns-clause-not_yet g c = search rules
