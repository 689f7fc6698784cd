use Rattle.std.proofs.Common.{List, [], ◌∷◌, ◌++◌, ap, ◌∙◌}
use Rattle.aio_record.specs.declared.stress_cell.Maker.{Maker}
use Rattle.aio_record.proofs.Making.{made_by}
use Rattle.aio_record.proofs.stress_cell.StressCell.make.Goals as goal

pub returns-clause-made : goal.returns-clause-made
returns-clause-made c =
    rw (← c.self.view_is) (made_by c.args.maker c.args.call c.in_ok-step.step _ _ c.self.invariant c.in_ok-step.ensures.call c.in_ok-step.ensures.steps
    (c.push_reserved.ensures.items ∙ ap (λ (ms : List Maker). ms ++ c.args.maker ∷ []) c.reserve.ensures.items))
