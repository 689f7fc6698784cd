use Rattle.std.proofs.Common.{◌≡◌, length}
use Rattle.aio_record.specs.Desks.{Underway}
use Rattle.aio_record.proofs.job.StressJobJob.run.Given as goal

abbrev pub invariant-loop-left : goal.invariant-loop-left
invariant-loop-left g l =
    (length l.desks.items ≡ 8) × Underway l.fn.self.calls l.fn.self.draws l.left l.draws l.fn.self.desks.items l.desks.items

abbrev pub decreases-loop-left : goal.decreases-loop-left
decreases-loop-left g l = l.left
