use Rattle.aio_work.proofs.Queueing.{QueuedBefore}
use Rattle.aio_work.proofs.slots.queue_all_woken.Given as goal

-- the slots before this one were gone through
abbrev pub invariant-loop-slot : goal.invariant-loop-slot
invariant-loop-slot l = QueuedBefore l.mask l.slot l.initial.slots l.initial.own l.slots l.own
