use Rattle.std.proofs.Common.{◌≡◌, subst, arith}
use Rattle.aio_shared.specs.HandOver.{slots_below}
use Rattle.aio_shared.specs.Waking.{WakesThese}
use Rattle.aio_shared.proofs.HandingOver.{slots_more}
use Rattle.aio_shared.proofs.WakingEach.{woke_none, woke_one_more}
use Rattle.aio_shared.proofs.hand_over.wake_slots.Goals as goal

pub loop-slot-init : goal.loop-slot-init
loop-slot-init g c = woke_none _ _ _ _ _ _ _

pub loop-slot-preserved : goal.loop-slot-preserved
loop-slot-preserved g c =
    let woken = c.wake-woken.ensures in
    woke_one_more _ _ _ _ _ (slots_below c.loop-slot.slot) _ (record { 0 = c.loop-slot.slot }) c.args.p.now c.loop-slot.p c.wake-woken.new.p _ _ _ c.loop-slot.first _ c.wake-woken.result
    (slots_more c.loop-slot.slot) c.first_of-first.ensures c.loop-slot.invariant woken.words woken.woke woken.faults woken.counts

pub returns : goal.returns
returns g c =
    let all : c.loop-slot.slot ≡ 1024 = omega (arith, c.loop-slot-test.false, c.loop-slot.auto.slot-end) in record {
      wakes = subst (λ n. WakesThese g.N.Notify.call_count g.N.Faults.fault_count g.N.Faults.is_sure g.N.Notify.notify_step c.args.words.now.parkers (slots_below n) c.args.p.now c.loop-slot.p c.args.n.now c.loop-slot.n c.loop-slot.first)
          all c.loop-slot.invariant;
    }
