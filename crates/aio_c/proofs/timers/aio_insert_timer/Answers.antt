use Rattle.std.proofs.Common.{rules}
use Rattle.aio_c.proofs.timers.aio_insert_timer.Goals as goal

pub returns-then-not-ids_left-clause-inserted : goal.returns-then-not-ids_left-clause-inserted
returns-then-not-ids_left-clause-inserted c = search rules

pub returns-then-not-ids_left-clause-spent : goal.returns-then-not-ids_left-clause-spent
returns-then-not-ids_left-clause-spent c = search rules

pub returns-clause-inserted : goal.returns-clause-inserted
returns-clause-inserted c = search rules

pub returns-clause-spent : goal.returns-clause-spent
returns-clause-spent c = search rules
