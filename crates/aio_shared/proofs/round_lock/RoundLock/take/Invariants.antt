use Rattle.std.proofs.Common.{◌≡◌, ◌≤◌}
use Rattle.aio_shared.proofs.round_lock.RoundLock.take.Given as goal

abbrev pub invariant-loop : goal.invariant-loop
invariant-loop g l = (l.claim ≡ record l.initial.claim { empties = l.claim.empties }) × (l.initial.claim.empties ≤ l.claim.empties)
