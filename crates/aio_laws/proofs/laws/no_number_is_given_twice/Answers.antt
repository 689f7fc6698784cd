use Rattle.aio_laws.proofs.steps.Counting.{counts_rise}
use Rattle.aio_laws.proofs.laws.no_number_is_given_twice.Goals as goal

pub returns : goal.returns
returns c = counts_rise
