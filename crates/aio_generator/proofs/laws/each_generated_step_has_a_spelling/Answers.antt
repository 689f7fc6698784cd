use Rattle.aio_generator.proofs.Ranges.{all_spelled}
use Rattle.aio_trace.proofs.Ranges.{in_range}
use Rattle.aio_generator.proofs.laws.each_generated_step_has_a_spelling.Goals as goal

pub returns-clause-spelled : goal.returns-clause-spelled
returns-clause-spelled c = all_spelled

pub returns-clause-in_range : goal.returns-clause-in_range
returns-clause-in_range c = in_range
