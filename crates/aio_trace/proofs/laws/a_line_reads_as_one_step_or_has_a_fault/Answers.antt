use Rattle.aio_base.proofs.FirstLines.{reads_one, no_fault, some_step}
use Rattle.aio_trace.proofs.laws.a_line_reads_as_one_step_or_has_a_fault.Goals as goal

pub returns-clause-one : goal.returns-clause-one
returns-clause-one c = reads_one

pub returns-clause-some : goal.returns-clause-some
returns-clause-some c = λ line. ((λ some. no_fault some.0 line some.1), some_step line)
