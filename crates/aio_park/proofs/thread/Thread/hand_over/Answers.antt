use Rattle.std.proofs.Common.{rules}
use Rattle.aio_park.proofs.thread.Thread.hand_over.Goals as goal

pub invariant_of-host : goal.invariant_of-host
invariant_of-host g c = search rules

pub invariant_of-self : goal.invariant_of-self
invariant_of-self g c = search rules

pub returns-clause-wakes : goal.returns-clause-wakes
returns-clause-wakes g c = search rules

pub returns-clause-later : goal.returns-clause-later
returns-clause-later g c = search rules

pub returns-clause-kept : goal.returns-clause-kept
returns-clause-kept g c = search rules
