use Rattle.std.proofs.Common.{◌≤◌, arith, refl, subst, ◌∙◌}
use Rattle.aio_base.specs.declared.outcomes.Poll.TheVariants.{Ready, Pending}
use Rattle.aio_serve.specs.Served.{latest_at}
use Rattle.aio_serve.proofs.InARow.{starts, row, may_end, still_allowed, later_still, one_more}
use Rattle.aio_serve.proofs.served.poll_in_a_row.Goals as goal

pub loop-end-init : goal.loop-end-init
loop-end-init g c = (starts _ _ _ _ _ _ _ _ c.polls_in_a_row-polls_left.ensures.some c.polls_in_a_row-polls_left.ensures.most, refl)

pub returns-in-Ready-clause-ready : goal.returns-in-Ready-clause-ready
returns-in-Ready-clause-ready g c = may_end _ _ _ _ _ _ _ _ _ _ c.loop-end.invariant.0 _ c.moment_of-now.ensures.order (subst (λ bounds. c.moment_of-now.result ≤ latest_at bounds c.args.cx.now) c.loop-end.invariant.1 c.moment_of-now.ensures.latest) c.in-Ready.end c.in-Ready.ensures.ready

pub returns-in-Ready-clause-step : goal.returns-in-Ready-clause-step
returns-in-Ready-clause-step g c = row _ _ _ _ _ _ _ _ _ _ c.loop-end.invariant.0 _ c.moment_of-now.ensures.order (subst (λ bounds. c.moment_of-now.result ≤ latest_at bounds c.args.cx.now) c.loop-end.invariant.1 c.moment_of-now.ensures.latest) (Ready c.in-Ready.end) _ _ c.in-Ready.ensures.step

pub returns-in-Ready-clause-later : goal.returns-in-Ready-clause-later
returns-in-Ready-clause-later g c = later_still _ _ _ _ _ _ _ _ _ _ c.loop-end.invariant.0 _ c.moment_of-now.ensures.order (subst (λ bounds. c.moment_of-now.result ≤ latest_at bounds c.args.cx.now) c.loop-end.invariant.1 c.moment_of-now.ensures.latest) _ c.poll.ensures.host

pub overflow_sub-polls_left : goal.overflow_sub-polls_left
overflow_sub-polls_left g c = c.loop-end.invariant.0.some

pub returns-then-polls_left-eq0-clause-pending : goal.returns-then-polls_left-eq0-clause-pending
returns-then-polls_left-eq0-clause-pending g c = still_allowed _ _ _ _ _ _ _ _ _ _ c.loop-end.invariant.0 _ c.moment_of-now.ensures.order (subst (λ bounds. c.moment_of-now.result ≤ latest_at bounds c.args.cx.now) c.loop-end.invariant.1 c.moment_of-now.ensures.latest) c.poll.new.self c.in-Pending.ensures.pending

pub returns-then-polls_left-eq0-clause-step : goal.returns-then-polls_left-eq0-clause-step
returns-then-polls_left-eq0-clause-step g c = row _ _ _ _ _ _ _ _ _ _ c.loop-end.invariant.0 _ c.moment_of-now.ensures.order (subst (λ bounds. c.moment_of-now.result ≤ latest_at bounds c.args.cx.now) c.loop-end.invariant.1 c.moment_of-now.ensures.latest) Pending _ _ c.in-Pending.ensures.step

pub returns-then-polls_left-eq0-clause-later : goal.returns-then-polls_left-eq0-clause-later
returns-then-polls_left-eq0-clause-later g c = later_still _ _ _ _ _ _ _ _ _ _ c.loop-end.invariant.0 _ c.moment_of-now.ensures.order (subst (λ bounds. c.moment_of-now.result ≤ latest_at bounds c.args.cx.now) c.loop-end.invariant.1 c.moment_of-now.ensures.latest) _ c.poll.ensures.host

pub loop-end-smaller : goal.loop-end-smaller
loop-end-smaller g c = omega (arith, c.loop-end.invariant.0.some)

pub loop-end-preserved : goal.loop-end-preserved
loop-end-preserved g c = (
  one_more _ _ _ _ _ _ _ _ _ _ c.loop-end.invariant.0 _ c.moment_of-now.ensures.order
      (subst (λ bounds. c.moment_of-now.result ≤ latest_at bounds c.args.cx.now) c.loop-end.invariant.1 c.moment_of-now.ensures.latest) _ _
      c.in-Pending.ensures.step c.in-Pending.ensures.pending c.poll.ensures.host
      (omega (arith, c.loop-end.invariant.0.some, c.if-polls_left-eq0.false)),
  c.moment_of-now.ensures.bounds ∙ c.loop-end.invariant.1,
)
