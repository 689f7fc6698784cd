-- The first member stays the first.
use Rattle.std.proofs.Common.{◌≡◌}
use Rattle.aio_shared_tests.proofs.threads.workers.Given as goal

abbrev pub invariant-loop : goal.invariant-loop
invariant-loop g l = l.first.host.member.ops.number ≡ 0
