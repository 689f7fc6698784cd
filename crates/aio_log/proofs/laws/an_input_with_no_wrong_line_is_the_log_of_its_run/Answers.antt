use Rattle.aio_log.proofs.RightLines.{input_told}
use Rattle.aio_log.proofs.laws.an_input_with_no_wrong_line_is_the_log_of_its_run.Goals as goal

pub returns : goal.returns
returns c = λ input none. input_told input none
