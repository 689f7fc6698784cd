use Rattle.aio_shared.specs.HandOver.{first_slots_of}
use Rattle.aio_shared.specs.Waking.{WakesThese}
use Rattle.aio_shared.proofs.hand_over.wake_first_slots.Given as goal

abbrev pub invariant-loop-other : goal.invariant-loop-other
invariant-loop-other g l = WakesThese g.N.Notify.call_count g.N.Faults.fault_count g.N.Faults.is_sure g.N.Notify.notify_step l.words.parkers (first_slots_of l.other l.parker) l.initial.p l.p l.initial.n l.n l.first
