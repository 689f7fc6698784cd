use Rattle.aio_laws.proofs.cover.Arming.{unbroken_covers}
use Rattle.aio_laws.proofs.cover.Rearming.{step_leaves_unbroken}
use Rattle.aio_laws.proofs.laws.a_poll_that_is_told_pending_leaves_its_source_unbroken.Goals as goal

pub returns-clause-step : goal.returns-clause-step
returns-clause-step c = step_leaves_unbroken

pub returns-clause-cover : goal.returns-clause-cover
returns-clause-cover c = unbroken_covers
