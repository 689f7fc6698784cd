use Rattle.aio_record.proofs.Making.{note_grown}
use Rattle.aio_record.proofs.desk.Desk.call.Goals as goal

pub returns-clause-grew : goal.returns-clause-grew
returns-clause-grew g c =
    rw (← c.self.view_is) (note_grown c.self.inside.maker c.args.call _ c.take-cell.result c.make-made.new.self c.make-made.result c.self.inside.owner c.take-cell.new.o c.give.new.o _ _ _
    c.self.invariant c.take-cell.ensures.notes c.take-cell.ensures.inside c.give.ensures c.make-made.ensures.made)
