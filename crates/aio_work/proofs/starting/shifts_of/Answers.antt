use Rattle.std.proofs.lemmas.Result.{IfOk-weaker}
use Rattle.aio_work.proofs.Beginning.{dealt_over, others_over}
use Rattle.aio_work.proofs.starting.shifts_of.Goals as goal

pub returns-clause-dealt : goal.returns-clause-dealt
returns-clause-dealt g c =
    IfOk-weaker c.at_desks.result _ _ (λ shifts same. dealt_over _ shifts.items c.in_ok-workloads.workloads.items _ same c.in_ok-workloads.ensures.dealt) c.at_desks.ensures

pub returns-clause-others : goal.returns-clause-others
returns-clause-others g c =
    IfOk-weaker c.at_desks.result _ _ (λ shifts same. others_over _ shifts.items c.in_ok-workloads.workloads.items same c.in_ok-workloads.ensures.others) c.at_desks.ensures
