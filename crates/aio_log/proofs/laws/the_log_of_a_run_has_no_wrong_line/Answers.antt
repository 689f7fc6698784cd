use Rattle.aio_log.proofs.RunLines.{log_read}
use Rattle.aio_log.proofs.laws.the_log_of_a_run_has_no_wrong_line.Goals as goal

pub returns-clause-right : goal.returns-clause-right
returns-clause-right c = λ input run log. (log_read input run log).right

pub returns-clause-same : goal.returns-clause-same
returns-clause-same c = λ input run log. (log_read input run log).same
