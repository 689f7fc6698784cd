use Rattle.std.proofs.Common.{rules}
use Rattle.aio_timers.proofs.book.TimerBook.insert.Goals as goal

pub returns-then-renew-clause-entries : goal.returns-then-renew-clause-entries
returns-then-renew-clause-entries c = search rules

pub returns-then-renew-clause-spare : goal.returns-then-renew-clause-spare
returns-then-renew-clause-spare c = search rules

pub returns-clause-entries : goal.returns-clause-entries
returns-clause-entries c = search rules

pub returns-clause-spare : goal.returns-clause-spare
returns-clause-spare c = search rules
