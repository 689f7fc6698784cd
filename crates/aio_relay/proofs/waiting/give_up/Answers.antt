use Rattle.std.proofs.Common.{rules}
use Rattle.aio_relay.proofs.waiting.give_up.Goals as goal

pub returns-in_default-clause-gives_up : goal.returns-in_default-clause-gives_up
returns-in_default-clause-gives_up g c = search rules
