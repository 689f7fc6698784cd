-- The first push found the queue full, and so did that of each try since.
use Rattle.std.proofs.Common.{◌-◌, ◌≤◌, ◌≡◌}
use Rattle.aio_shared.specs.TimerCalls.{FoundFull}
use Rattle.aio_shared.proofs.shared.Shared.carry_out.Given as goal

abbrev pub invariant-loop-tries : goal.invariant-loop-tries
invariant-loop-tries g l = FoundFull l.tries l.fn.p l.p × (l.tries ≤ 1000) × (l.p.queue ≡ l.fn.p.queue)

abbrev pub decreases-loop-tries : goal.decreases-loop-tries
decreases-loop-tries g l = 1000 - l.tries
