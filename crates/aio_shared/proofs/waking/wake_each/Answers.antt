use Rattle.std.proofs.Common.{take}
use Rattle.std.proofs.lemmas.List.{take_more}
use Rattle.aio_shared.proofs.WakingEach.{woke_none, woke_one_more}
use Rattle.aio_shared.proofs.waking.wake_each.Goals as goal

pub loop-waker-init : goal.loop-waker-init
loop-waker-init g c = woke_none _ _ _ _ _ _ _

pub loop-waker-preserved : goal.loop-waker-preserved
loop-waker-preserved g c =
    let woken = c.wake-woken.ensures in
    woke_one_more _ _ _ _ _ (take c.loop-waker.waker-index c.args.wakers.now) _ _ c.args.p.now c.loop-waker.p c.wake-woken.new.p _ _ _ c.loop-waker.first _ c.wake-woken.result
    (take_more c.args.wakers.now c.loop-waker.waker-index (record { 0 = 0 }) c.loop-waker-test.true) c.first_of-first.ensures c.loop-waker.invariant woken.words woken.woke woken.faults woken.counts
