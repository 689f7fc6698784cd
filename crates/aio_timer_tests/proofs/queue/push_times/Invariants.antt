-- The pass stays the same one of the queue.
use Rattle.std.proofs.Common.{◌≡◌}
use Rattle.aio_timer_tests.proofs.queue.push_times.Given as goal

abbrev pub invariant-loop : goal.invariant-loop
invariant-loop g l = (l.p.queue ≡ l.initial.p.queue) × (l.p.number ≡ l.initial.p.number)
