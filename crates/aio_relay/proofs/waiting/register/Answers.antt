use Rattle.std.proofs.Common.{ap}
use Rattle.aio_base.specs.declared.outcomes.Poll.TheVariants.{Ready}
use Rattle.aio_future.specs.Timers.{poll_fault}
use Rattle.aio_relay.proofs.WaitLemmas.{sets-told}
use Rattle.aio_relay.proofs.waiting.register.Goals as goal

pub returns-in-Ready-Err-clause-sets : goal.returns-in-Ready-Err-clause-sets
returns-in-Ready-Err-clause-sets g c =
    let k = c.in-Ready-Err.ensures.worked in
    let a = c.after_fault in
    sets-told g.H.TimerHost.rules g.H.Later.is_later g.H.Later.notifier_is_sure _ c.args.host.now c.poll.new.host a.new.host c.args.timer.now c.poll.new.self _ c.in-Ready-Err.fault c.args.w a.result
    (ap (λ r. poll_fault (Ready r)) c.in-Ready-Err.field-0-is) k (g.H.Later.stays_sure _ _ k.is_later) a.ensures.ids a.ensures.host.faults a.ensures.comes
