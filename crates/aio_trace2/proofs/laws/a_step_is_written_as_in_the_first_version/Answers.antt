use Rattle.aio_trace2.proofs.Written2.{written_as_first}
use Rattle.aio_trace2.proofs.laws.a_step_is_written_as_in_the_first_version.Goals as goal

pub returns : goal.returns
returns c = written_as_first
