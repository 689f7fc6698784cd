use Rattle.aio_generator.proofs.Generations.{fewer_left}
use Rattle.aio_generator.proofs.generating.StepsIterator.next.Goals as goal

pub returns-clause-steps : goal.returns-clause-steps
returns-clause-steps c = c.next_step.ensures.step

pub returns-clause-goes : goal.returns-clause-goes
returns-clause-goes c = record {
  on = λ finite. (tt, tt, fewer_left c.args.self.now c.next_step.new.self c.next_step.result c.next_step.ensures.step);
  keeps = tt;
  rests = λ finite. tt;
}
