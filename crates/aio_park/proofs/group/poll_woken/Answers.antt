use Rattle.std.proofs.Common.{◌≡◌, get_or, subst, arith}
use Rattle.aio_park.specs.Groups.{SlotGives}
use Rattle.aio_park.proofs.Polling.{polled_further, polled_all, give_before}
use Rattle.aio_park.proofs.group.poll_woken.Goals as goal

pub loop-at-preserved : goal.loop-at-preserved
loop-at-preserved g c =
    let so_far = c.loop-at.invariant in
    let at = c.loop-at.at in
    let d = c.index-slots-at.result in
    let slot = get_or c.loop-at.slots at d in
    let new = c.poll_if_woken.new.slot in
    let is_sure = g.H.Later.notifier_is_sure in
    let same : is_sure c.loop-at.host ≡ is_sure c.args.host.now = g.H.Later.stays_sure _ _ so_far.2 in (
      polled_further g.T.Task.poll_step g.T.Task.poll_count c.args.parker at c.args.cx.now c.args.slots.now c.args.host.now c.loop-at.slots d new c.loop-at.host c.poll_if_woken.new.host (omega arith)
          so_far.0 c.poll_if_woken.ensures.after,
      λ moment outputs bound given. so_far.1 moment outputs bound
          (give_before g.T.Task.gives c.loop-at.slots at d new (is_sure c.args.host.now) moment (omega arith)
          (λ output. subst (λ sure. SlotGives g.T.Task.gives new sure moment output → SlotGives g.T.Task.gives slot sure moment output) same
          (c.poll_if_woken.ensures.gives moment output bound)) outputs given),
      g.H.Later.later_than_later _ _ _ so_far.2 c.poll_if_woken.ensures.host,
    )

pub returns : goal.returns
returns g c =
    let so_far = c.loop-at.invariant in record {
      each = polled_all g.T.Task.poll_step g.T.Task.poll_count c.args.parker c.loop-at.at c.args.cx.now c.args.slots.now c.args.host.now c.loop-at.slots c.loop-at.host (omega arith) so_far.0;
      gives = so_far.1;
      host = so_far.2;
    }
