use Rattle.std.proofs.Common.{rules}
use Rattle.aio_relay.proofs.pair.Pair.is_done.Goals as goal

pub returns-then-is_side_done-clause-done : goal.returns-then-is_side_done-clause-done
returns-then-is_side_done-clause-done g c = search rules
