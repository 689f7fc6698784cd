use Rattle.std.proofs.Common.{◌≡◌, ℕ, List, ap, ◌∙◌, subst}
use Rattle.aio_base.specs.declared.names.Waker.{Waker}
use Rattle.aio_source.specs.InHand.{RoundValue}
use Rattle.aio_shared.specs.Reporting.{Reports}
use Rattle.aio_shared.specs.Waking.{WakesThese}
use Rattle.aio_shared.proofs.Reporting.{reports_round, reports_faults, reports_first}
use Rattle.aio_shared.proofs.shared.Shared.wake_taken.Goals as goal

pub returns-clause-tells : goal.returns-clause-tells
returns-clause-tells g c =
    let told = subst (λ (r : RoundValue). Reports r c.wake_each-failed.result c.args.resumed c.args.in_hand c.report.result)
    c.round-round.ensures c.report.ensures in
    rw (← c.m.view_is) (reports_round c.args.cell.now.round _ _ _ _ _ told c.wake_each-failed.ensures.wakes.cause)

pub returns-clause-first : goal.returns-clause-first
returns-clause-first g c =
    let told = subst (λ (r : RoundValue). Reports r c.wake_each-failed.result c.args.resumed c.args.in_hand c.report.result)
    c.round-round.ensures c.report.ensures in
    let parkers : c.deref.result.now.parkers ≡ c.args.self.now.words.parkers = ap (λ w. w.parkers) c.deref.ensures ∙ ap (λ s. s.words.parkers) c.self.view_is in
    let wakers : c.woken.result.now ≡ c.args.cell.now.round.taken = c.woken.ensures ∙ ap (λ (r : RoundValue). r.taken) c.round-round.ensures in
    let wakes = subst (λ (x : ℕ × List Waker). WakesThese g.N.Notify.call_count g.N.Faults.fault_count g.N.Faults.is_sure g.N.Notify.notify_step x.0 x.1
    c.m.inside.pass c.wake_each-failed.new.p c.m.inside.notifier c.wake_each-failed.new.n c.wake_each-failed.result) (λ i. (parkers i, wakers i)) c.wake_each-failed.ensures.wakes in
    rw (← c.m.view_is) (reports_first c.args.cell.now.round _ _ _ _ _ _ _ _ _ _ _ _ _ told wakes.first)

pub returns-clause-faults : goal.returns-clause-faults
returns-clause-faults g c =
    let told = c.report.ensures in
    rw (← c.m.view_is) (reports_faults c.round-round.result.now _ _ _ _ _ _ _ _ told c.wake_each-failed.ensures.wakes.faults)
