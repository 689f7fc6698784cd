use Rattle.std.specs.Arc.{arc_value}
use Rattle.aio_shared.proofs.Hosting.{registers}
use Rattle.aio_shared.proofs.inside.InsideTimerHost.insert_timer.Goals as goal

pub returns-clause-inserted : goal.returns-clause-inserted
returns-clause-inserted g c =
    rw (← c.self.view_is)
    (registers (arc_value c.self.inside.shared) c.self.inside.member c.insert_timer.new.m _ g.N.Notify.call_count g.N.Faults.fault_count g.N.Notify.notify_step _ c.insert_timer.result
    c.insert_timer.ensures.inserts)
