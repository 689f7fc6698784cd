-- With no node all stands.
use Rattle.std.proofs.Common.{arith}
use Rattle.aio_timers.proofs.SoundLemmas.{empty-sound}
use Rattle.aio_timers.proofs.timer_heap.TimerHeap.new.Goals as goal

pub invariant_of-result : goal.invariant_of-result
invariant_of-result c = rw (c.new.ensures, c.new-2.ensures, c.none.ensures) (empty-sound, λ k r lt. absurd (omega (arith, lt)))
