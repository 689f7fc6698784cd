use Rattle.aio_shared.specs.HandOver.{slots_below}
use Rattle.aio_shared.specs.Waking.{WakesThese}
use Rattle.aio_shared.proofs.hand_over.wake_slots.Given as goal

abbrev pub invariant-loop-slot : goal.invariant-loop-slot
invariant-loop-slot g l = WakesThese g.N.Notify.call_count g.N.Faults.fault_count g.N.Faults.is_sure g.N.Notify.notify_step l.words.parkers (slots_below l.slot) l.initial.p l.p l.initial.n l.n l.first
