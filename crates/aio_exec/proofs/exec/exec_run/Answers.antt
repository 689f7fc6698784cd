use Rattle.std.proofs.Common.{sym, subst}
use Rattle.aio_exec.specs.Workers.{HasExecCause}
use Rattle.aio_exec.proofs.Ends.{exec_cause, stops_lent}
use Rattle.aio_exec.proofs.exec.exec_run.Goals as goal

pub returns-clause-cause : goal.returns-clause-cause
returns-clause-cause g c =
    let wait = g.W.Faults.is_sure c.args.wait in
    let notify = g.N.Faults.is_sure c.args.notify.now in
    let own = c.in-Ok.caller.host.member in
    let fault = c.in-Err.fault in
    subst (HasExecCause wait notify) (sym c.fault_of.ensures)
    (exec_cause wait notify fault (stops_lent wait notify own.claim.sure_of_wait (g.N.Faults.is_sure own.notifier) fault c.in-Ok.ensures.wait c.in-Ok.ensures.notifier c.in-Err.ensures.cause))
