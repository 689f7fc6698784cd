use Rattle.std.proofs.Common.{sym, subst}
use Rattle.aio_shared.specs.HandOver.{first_slot, first_slots_of}
use Rattle.aio_shared.specs.Waking.{WakesThese}
use Rattle.aio_shared.proofs.HandingOver.{first_slots_one, first_slots_same}
use Rattle.aio_shared.proofs.WakingEach.{woke_none, woke_one_more}
use Rattle.aio_shared.proofs.hand_over.wake_first_slots.Goals as goal

pub loop-other-init : goal.loop-other-init
loop-other-init g c = woke_none _ _ _ _ _ _ _

pub loop-other-preserved-then-other-parker : goal.loop-other-preserved-then-other-parker
loop-other-preserved-then-other-parker g c =
    subst (λ ws. WakesThese g.N.Notify.call_count g.N.Faults.fault_count g.N.Faults.is_sure g.N.Notify.notify_step c.args.words.now.parkers ws c.args.p.now c.loop-other.p c.args.n.now c.loop-other.n c.loop-other.first)
    (sym (first_slots_same c.loop-other.other c.args.parker c.if-other-parker.true)) c.loop-other.invariant

pub loop-other-preserved : goal.loop-other-preserved
loop-other-preserved g c =
    let woken = c.wake-woken.ensures in
    woke_one_more _ _ _ _ _ (first_slots_of c.loop-other.other c.args.parker) _ (first_slot c.loop-other.other) c.args.p.now c.loop-other.p c.wake-woken.new.p _ _ _ c.loop-other.first _ c.wake-woken.result
    (first_slots_one c.loop-other.other c.args.parker c.if-other-parker.false) c.first_of-first.ensures c.loop-other.invariant woken.words woken.woke woken.faults woken.counts
