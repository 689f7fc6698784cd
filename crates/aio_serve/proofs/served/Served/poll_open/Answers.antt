use Rattle.std.proofs.Common.{◌≤◌, ap, sym, subst}
use Rattle.aio_serve.specs.Served.{ServedValue, latest_at}
use Rattle.aio_serve.proofs.served.Served.poll_open.Goals as goal

-- the clock is that of the slot
pub returns-clause-pending : goal.returns-clause-pending
returns-clause-pending g c = λ moment end past.
    c.in_default.ensures.pending moment end
    (subst (λ bounds. latest_at bounds c.args.cx.now ≤ moment) (sym (ap (λ (s : ServedValue). s.bounds) c.self.view_is)) past)
