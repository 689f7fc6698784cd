use Rattle.std.proofs.Common.{rules}
use Rattle.aio_places.proofs.ends.tell.Goals as goal

pub returns-in-Ready-Err-clause-told : goal.returns-in-Ready-Err-clause-told
returns-in-Ready-Err-clause-told c = search rules

pub returns-in-Ready-Err-clause-count : goal.returns-in-Ready-Err-clause-count
returns-in-Ready-Err-clause-count c = search rules

pub returns-in-Ready-Ok-clause-told : goal.returns-in-Ready-Ok-clause-told
returns-in-Ready-Ok-clause-told c = search rules

pub returns-in-Ready-Ok-clause-count : goal.returns-in-Ready-Ok-clause-count
returns-in-Ready-Ok-clause-count c = search rules

pub returns-in-Pending-clause-told : goal.returns-in-Pending-clause-told
returns-in-Pending-clause-told c = search rules

pub returns-in-Pending-clause-count : goal.returns-in-Pending-clause-count
returns-in-Pending-clause-count c = search rules
