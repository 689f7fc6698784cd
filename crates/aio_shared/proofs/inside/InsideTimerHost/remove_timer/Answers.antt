use Rattle.std.proofs.Common.{ap}
use Rattle.std.specs.Arc.{arc_value}
use Rattle.aio_shared.specs.Members.{MemberValue}
use Rattle.aio_shared.proofs.Hosting.{removal_done, removal_kept, removal_refused, removal_tells}
use Rattle.aio_shared.proofs.inside.InsideTimerHost.remove_timer.Goals as goal

pub returns-clause-removed : goal.returns-clause-removed
returns-clause-removed g c = rw (← c.self.view_is) (removal_done _ _ _ _ _ _ c.remove_timer.ensures.removes)

pub returns-clause-refused : goal.returns-clause-refused
returns-clause-refused g c = rw (← c.self.view_is) (removal_refused (arc_value c.self.inside.shared) _ _ _ _ _ c.remove_timer.ensures.removes)

pub returns-clause-notifier : goal.returns-clause-notifier
returns-clause-notifier g c =
    rw (← c.self.view_is) (removal_tells (arc_value c.self.inside.shared) c.self.inside.member c.remove_timer.new.m _ _ _ c.remove_timer.ensures.removes g.N.Faults.fault_count g.N.Faults.is_sure)

pub returns-clause-ids : goal.returns-clause-ids
returns-clause-ids g c =
    rw (← c.self.view_is) (ap (λ (x : MemberValue g.row.N.Denot). x.ids)
    (removal_kept (arc_value c.self.inside.shared) c.self.inside.member c.remove_timer.new.m _ _ _ c.remove_timer.ensures.removes))
