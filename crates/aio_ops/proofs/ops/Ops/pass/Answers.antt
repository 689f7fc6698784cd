use Rattle.std.proofs.Common.{ap, ◌∙◌}
use Rattle.aio_ops.specs.Passes.{PassView}
use Rattle.aio_ops.proofs.Steps.{forks}
use Rattle.aio_ops.proofs.ops.Ops.pass.Goals as goal

pub another-requires-clause-rule : goal.another-requires-clause-rule
another-requires-clause-rule g c = forks _ _ (c.from.invariant.4 ∙ ap (λ (v : PassView). v.number) c.from.view_is ∙ c.requires.first)
