use Rattle.std.proofs.Common.{◌≡◌}
use Rattle.aio_lock.proofs.gate.Gate.enter.Given as goal

-- no attempt has changed the token
abbrev pub invariant-loop : goal.invariant-loop
invariant-loop g l = l.token ≡ l.initial.token
