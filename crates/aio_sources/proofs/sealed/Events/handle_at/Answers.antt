use Rattle.aio_sources.proofs.Handling.{handles_by_key}
use Rattle.aio_sources.proofs.sealed.Events.handle_at.Goals as goal

pub returns-clause-handled : goal.returns-clause-handled
returns-clause-handled g c =
    let on = c.handle_in-handled.ensures in
    handles_by_key g.A.Arm.arm_step g.A.Arm.interests g.A.Arm.rest g.A.Faults.fault_count g.A.Faults.is_sure c.args.key c.visit-cell.result.0.value c.handle_in-handled.new.cell.value
    (g.H.InHand.round c.args.self.now.round.now) (g.H.InHand.round c.handle_in-handled.new.round) c.handle_in-handled.result on.own on.handled
