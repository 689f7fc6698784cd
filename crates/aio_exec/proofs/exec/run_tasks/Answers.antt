use Rattle.std.proofs.Common.{◌≡◌, Bool, length, subst, arith}
use Rattle.std.specs.Prelude.{IfErr}
use Rattle.std.proofs.lemmas.Result.{IfOk-weaker}
use Rattle.aio_park.specs.Stopping.{StopsFor}
use Rattle.aio_exec.proofs.Ends.{answers, zip_length}
use Rattle.aio_exec.proofs.exec.run_tasks.Goals as goal

pub returns-in-Ok-run_workers-clause-allowed : goal.returns-in-Ok-run_workers-clause-allowed
returns-in-Ok-run_workers-clause-allowed g c =
    IfOk-weaker c.finish_all.result _ _
    (λ outputs finished. answers g.K.Work.about_of g.K.Work.allows c.args.tasks.items c.in-Ok-seat_tasks.seated.kept.items outputs.items c.in-Ok-seat_tasks.ensures.kept finished)
    c.finish_all.ensures.allowed

pub returns-in-Ok-run_workers-clause-cause : goal.returns-in-Ok-run_workers-clause-cause
returns-in-Ok-run_workers-clause-cause g c =
    let old = c.args.caller.now.host.member in
    let new = c.run_workers.new.caller.host.member in
    subst (λ (sure : Bool). IfErr c.finish_all.result (StopsFor sure (g.N.Faults.is_sure old.notifier))) c.run_workers.ensures.wait
    (subst (λ (n : g.row.N.Denot). IfErr c.finish_all.result (StopsFor new.claim.sure_of_wait (g.N.Faults.is_sure n))) c.run_workers.ensures.notifier c.finish_all.ensures.cause)

pub finish_all-requires-clause-room : goal.finish_all-requires-clause-room
finish_all-requires-clause-room g c =
    let kept = c.in-Ok-seat_tasks.seated.kept in
    let as_many : length kept.items ≡ length c.args.tasks.items = zip_length _ c.args.tasks.items kept.items c.in-Ok-seat_tasks.ensures.kept in
    omega (arith, as_many, c.in-Ok.ensures.capacity, c.len-count.ensures, kept.ok.0, c.args.tasks.ok.0)
