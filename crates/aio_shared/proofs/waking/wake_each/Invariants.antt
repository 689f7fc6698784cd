use Rattle.std.proofs.Common.{take}
use Rattle.aio_shared.specs.Waking.{WakesThese}
use Rattle.aio_shared.proofs.waking.wake_each.Given as goal

abbrev pub invariant-loop-waker : goal.invariant-loop-waker
invariant-loop-waker g l = WakesThese g.N.Notify.call_count g.N.Faults.fault_count g.N.Faults.is_sure g.N.Notify.notify_step l.words.parkers (take l.waker-index l.wakers) l.initial.p l.p l.initial.n l.n l.first
