use Rattle.std.proofs.Common.{None, Some}
use Rattle.aio_base.specs.declared.steps.Step.TheVariants as step
use Rattle.aio_base.specs.Devices.{PollerStep}
use Rattle.aio_react.specs.Cores.{CoreValue}
use Rattle.aio_react.proofs.rounds.FinishMeets.{finish_refused, finish_answered, finish_unanswered}
use Rattle.aio_react.proofs.steps.PartMeets.{replies_step}
use Rattle.aio_react.proofs.reactor.Core.finish.Goals as goal
use Rattle.aio_react.proofs.reactor.Core.finish.Goals.{in-Ok-finish, in-Err-finish}

pub returns-in-Err-clause-part : goal.returns-in-Err-clause-part
returns-in-Err-clause-part g c limit =
    let i = c.self.inside in
    let core : CoreValue = record { sources = i.sources; listeners = i.listeners; ticker = i.ticker; book = i.book.entries; ids_drawn = i.ids_drawn; round = i.round } in
    rw (← c.self.view_is)
    (finish_refused (PollerStep g.P.Arm.arm_step g.P.EventWait.wait_step) g.P.Arm.interests i.poller core limit (Some c.args.now) c.in-Err.refusal c.in-Err.ensures.refused)

pub returns-clause-part : goal.returns-clause-part
returns-clause-part g c limit =
    let i = c.self.inside in
    let core : CoreValue = record { sources = i.sources; listeners = i.listeners; ticker = i.ticker; book = i.book.entries; ids_drawn = i.ids_drawn; round = i.round } in
    rw (← c.self.view_is)
    (elim c.match-finish.branch [
      | in-Ok-finish w ↦ finish_answered (PollerStep g.P.Arm.arm_step g.P.EventWait.wait_step) g.P.Arm.interests i.poller core limit c.args.now
          w.in-Ok-finish.fault c.finish.new.book.entries c.finish.new.self c.match-finish.result w.result-is c.in-Ok.ensures.phase.0 c.in-Ok.ensures.phase.1
          w.in-Ok-finish.ensures.fault w.in-Ok-finish.ensures.book w.in-Ok-finish.ensures.round
      | in-Err-finish w ↦ finish_unanswered (PollerStep g.P.Arm.arm_step g.P.EventWait.wait_step) g.P.Arm.interests i.poller core limit c.args.now
          c.finish.new.book.entries c.finish.new.self c.match-finish.result w.result-is
    ])

pub returns-in-Err-clause-meets : goal.returns-in-Err-clause-meets
returns-in-Err-clause-meets g c =
    replies_step (PollerStep g.P.Arm.arm_step g.P.EventWait.wait_step) g.P.Arm.interests step.Finish (Some c.args.now) _ None _ _ _ (returns-in-Err-clause-part g c None)

pub returns-clause-meets : goal.returns-clause-meets
returns-clause-meets g c =
    replies_step (PollerStep g.P.Arm.arm_step g.P.EventWait.wait_step) g.P.Arm.interests step.Finish (Some c.args.now) _ None _ _ _ (returns-clause-part g c None)
