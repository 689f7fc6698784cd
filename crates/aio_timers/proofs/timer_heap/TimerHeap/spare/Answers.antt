-- There are at least as many nodes as timers.
use Rattle.std.proofs.Common.{arith}
use Rattle.aio_timers.proofs.SoundLemmas.{used-fits}
use Rattle.aio_timers.proofs.timer_heap.TimerHeap.spare.Goals as goal

pub overflow_sub-result : goal.overflow_sub-result
overflow_sub-result c = omega (arith, c.len.ensures, used-fits c.self.inside.nodes c.self.inside.buckets c.self.inside.root c.self.inside.free c.self.inside.used c.self.invariant.0)
