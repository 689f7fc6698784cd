use Rattle.std.proofs.Common.{arith}
use Rattle.aio_work.proofs.Queueing.{queued_all}
use Rattle.aio_work.proofs.slots.queue_all_woken.Goals as goal

pub returns : goal.returns
returns c = queued_all c.args.mask c.loop-slot.slot c.args.slots.now c.args.own.now c.loop-slot.slots c.loop-slot.own (omega arith) c.loop-slot.invariant
