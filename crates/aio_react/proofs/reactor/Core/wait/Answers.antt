use Rattle.std.proofs.Common.{◌≡◌, ◌∙◌, [], None, sym, ap}
use Rattle.aio_base.specs.declared.steps.Step.TheVariants as step
use Rattle.aio_react.specs.Cores.{CoreValue}
use Rattle.aio_base.specs.Devices.{PollerStep}
use Rattle.aio_react.proofs.rounds.WaitMeets.{core_wait, wait_done, refused_meets}
use Rattle.aio_react.proofs.steps.PartMeets.{part_steps}
use Rattle.aio_react.proofs.reactor.Core.wait.Goals as goal
use Rattle.aio_react.proofs.reactor.Core.wait.Goals.{in-Ok-wait, in-Err-wait}

pub returns-in-Err-clause-part : goal.returns-in-Err-clause-part
returns-in-Err-clause-part g c =
    let i = c.self.inside in
    let core : CoreValue = record { sources = i.sources; listeners = i.listeners; ticker = i.ticker; book = i.book.entries; ids_drawn = i.ids_drawn; round = i.round } in
    rw (← c.self.view_is) (refused_meets (PollerStep g.P.Arm.arm_step g.P.EventWait.wait_step) g.P.Arm.interests i.poller core c.in-Err.refusal c.in-Err.ensures.refused)

pub returns-clause-part : goal.returns-clause-part
returns-clause-part g c =
    let i = c.self.inside in
    let core : CoreValue = record { sources = i.sources; listeners = i.listeners; ticker = i.ticker; book = i.book.entries; ids_drawn = i.ids_drawn; round = i.round } in
    let said : c.match-wait.result ≡ core_wait c.wait.result = elim c.match-wait.branch [
      | in-Ok-wait w ↦ w.result-is ∙ sym (ap core_wait w.in-Ok-wait.is)
      | in-Err-wait w ↦ w.result-is ∙ sym (ap core_wait w.in-Err-wait.is)
    ] in
    rw (← c.self.view_is)
    (wait_done g.P.Arm.arm_step g.P.EventWait.wait_step g.P.Arm.interests i.poller c.wait.new.poller core c.wait.result c.wait.new.self c.match-wait.result
    c.in-Ok.ensures.phase.0 c.in-Ok.ensures.phase.1 c.wait.ensures.step c.wait.ensures.count (g.met.P.Poller.wait_clears _ _ _ _ _ c.wait.ensures.step) c.wait.ensures.round said)

pub returns-in-Err-clause-meets : goal.returns-in-Err-clause-meets
returns-in-Err-clause-meets g c =
    part_steps (PollerStep g.P.Arm.arm_step g.P.EventWait.wait_step) g.P.Arm.interests step.Wait None _ [] _ _ _ (returns-in-Err-clause-part g c)

pub returns-clause-meets : goal.returns-clause-meets
returns-clause-meets g c =
    part_steps (PollerStep g.P.Arm.arm_step g.P.EventWait.wait_step) g.P.Arm.interests step.Wait None _ [] _ _ _ (returns-clause-part g c)
