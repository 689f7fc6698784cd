use Rattle.aio_trace2.proofs.ReadLaws2.{no_fault2, reads_one2, some_line2}
use Rattle.aio_trace2.proofs.laws.bytes_read_as_one_line_or_have_a_fault.Goals as goal

pub returns-clause-one : goal.returns-clause-one
returns-clause-one c = reads_one2

pub returns-clause-some : goal.returns-clause-some
returns-clause-some c = λ bytes. ((λ some. no_fault2 some.0 bytes some.1), some_line2 bytes)
