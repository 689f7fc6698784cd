use Rattle.std.proofs.Common.{rules}
use Rattle.aio_relay.proofs.pair.is_side_done.Goals as goal

pub returns-then-ended-clause-done : goal.returns-then-ended-clause-done
returns-then-ended-clause-done c = search rules
