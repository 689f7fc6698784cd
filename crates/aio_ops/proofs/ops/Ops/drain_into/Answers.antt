use Rattle.std.proofs.Common.{◌∙◌, ap, subst, arith}
use Rattle.aio_rules.specs.OperationLaws.{KnowsItsPast}
use Rattle.aio_ops.specs.Passes.{PassView, queue_pass}
use Rattle.aio_ops.proofs.TakeLemmas.{takes_one_more, drains_full, drains_empty}
use Rattle.aio_ops.proofs.ops.Ops.drain_into.Goals as goal

pub loop-count-preserved : goal.loop-count-preserved
loop-count-preserved g c =
    let popped = c.in-Some.ensures in (
      takes_one_more _ _ _ _ _ _ _ _ c.loop-count.invariant.0 popped c.apply.ensures.entries c.apply.ensures.spare,
      ap (λ (p : PassView). p.empties) popped.2 ∙ c.loop-count.invariant.1,
      omega arith,
    )

pub returns-after-loop-count : goal.returns-after-loop-count
returns-after-loop-count g c =
    drains_full _ _ _ _ _ (subst (λ (v : PassView). KnowsItsPast (queue_pass v)) c.p.view_is c.p.invariant.6) c.loop-count.invariant.0 c.loop-count.invariant.1
    c.loop-count.invariant.2 (omega (arith, c.loop-count-test.false))

pub returns-in-None : goal.returns-in-None
returns-in-None g c =
    drains_empty _ _ _ _ _ _ (subst (λ (v : PassView). KnowsItsPast (queue_pass v)) c.p.view_is c.p.invariant.6) c.loop-count.invariant.0 c.loop-count.invariant.1
    (omega (arith, c.loop-count-test.true)) c.in-None.ensures
