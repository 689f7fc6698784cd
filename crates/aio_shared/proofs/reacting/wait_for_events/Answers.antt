use Rattle.std.proofs.Common.{rules}
use Rattle.aio_shared.proofs.reacting.wait_for_events.Goals as goal

pub await_events-requires-clause-risen : goal.await_events-requires-clause-risen
await_events-requires-clause-risen g c = search rules

pub returns-clause-cleared : goal.returns-clause-cleared
returns-clause-cleared g c = search rules
