use Rattle.std.proofs.Common.{◌≡◌, length, arith}
use Rattle.aio_base.proofs.JobEnds.{in_order}
use Rattle.aio_base.proofs.running.on_threads.Goals as goal

pub returns-in-Ok : goal.returns-in-Ok
returns-in-Ok g c =
    let ends = c.in-Ok.ends in
    let long : length ends.items ≡ length c.args.jobs.items = omega (arith, c.args.jobs.ok.0, ends.ok.0, c.in-Ok.ensures.len) in
    in_order _ _ g.J.Job.may_end (λ job end r. r.met) c.args.jobs.items ends.items long c.in-Ok.ensures.each
