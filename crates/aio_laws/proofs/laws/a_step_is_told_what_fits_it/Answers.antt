use Rattle.aio_laws.proofs.steps.Answering.{answer_fits}
use Rattle.aio_laws.proofs.laws.a_step_is_told_what_fits_it.Goals as goal

pub returns : goal.returns
returns c = answer_fits
