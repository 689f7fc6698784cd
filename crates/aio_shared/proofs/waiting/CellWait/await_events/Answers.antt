use Rattle.std.proofs.Common.{rules}
use Rattle.aio_shared.proofs.waiting.CellWait.await_events.Goals as goal

pub returns-clause-awaits : goal.returns-clause-awaits
returns-clause-awaits g c = search rules
