use Rattle.std.proofs.Common.{rules}
use Rattle.aio_relay.proofs.passing.is_finished.Goals as goal

pub returns-then-more_a-clause-room : goal.returns-then-more_a-clause-room
returns-then-more_a-clause-room c = search rules

pub returns-clause-room : goal.returns-clause-room
returns-clause-room c = search rules
