use Rattle.aio_park.specs.Posts.{member_terms}
use Rattle.aio_park.proofs.Stops.{all_stop, one_stops}
use Rattle.aio_exec.specs.Workers.{WorkerEnds, WorkerValue}
use Rattle.aio_exec.proofs.Ends.{ends_with_cause}
use Rattle.aio_exec.proofs.exec.run_workers.Goals as goal

pub returns-in-Err-clause-cause : goal.returns-in-Err-clause-cause
returns-in-Err-clause-cause g c =
    let jobs = c.in-Ok.jobs.items in
    let terms = λ (w : WorkerValue). w.terms in
    all_stop terms (member_terms g.C.Clock.bounds g.N.Faults.is_sure c.args.caller.now.host.member c.args.caller.now.clock) jobs c.in-Err.fault c.in-Ok.ensures.under
    (one_stops terms WorkerEnds ends_with_cause jobs c.in-Ok-run_all.ended.items c.in-Err.fault c.in-Ok-run_all.ensures c.in-Err.ensures.fault)
