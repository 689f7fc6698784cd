use Rattle.std.proofs.Common.{rules}
use Rattle.aio_script.proofs.clock.ScriptClock.set.Goals as goal

pub returns-then-lt-clause-back : goal.returns-then-lt-clause-back
returns-then-lt-clause-back c = search rules

pub returns-then-lt-clause-later : goal.returns-then-lt-clause-later
returns-then-lt-clause-later c = search rules

pub invariant_of-self : goal.invariant_of-self
invariant_of-self c = search rules

pub returns-clause-set : goal.returns-clause-set
returns-clause-set c = search rules

pub returns-clause-later : goal.returns-clause-later
returns-clause-later c = search rules
