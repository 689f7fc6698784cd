use Rattle.std.proofs.Common.{arith}
use Rattle.aio_work.proofs.Queueing.{all_let_go, let_go_further}
use Rattle.aio_work.proofs.slots.let_queued_go.Goals as goal

pub loop-held-preserved : goal.loop-held-preserved
loop-held-preserved c =
    let_go_further c.loop-held.held-index c.args.slots.now c.loop-held.slots _ c.let_go.result (omega arith) c.let_go.ensures c.loop-held.invariant

pub returns : goal.returns
returns c = all_let_go c.loop-held.held-index c.args.slots.now c.loop-held.slots (omega arith) c.loop-held.invariant
