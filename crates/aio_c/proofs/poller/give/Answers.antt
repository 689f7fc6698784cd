use Rattle.std.proofs.Common.{rules}
use Rattle.aio_c.proofs.poller.give.Goals as goal

pub returns-clause-answer : goal.returns-clause-answer
returns-clause-answer c = record { told = c.give-told.result; answer_is = c.memory_code.ensures; promised = record { core = search rules; given = search rules; refused = search rules } }
