use Rattle.aio_laws.proofs.steps.Calling.{calls_follow}
use Rattle.aio_laws.proofs.laws.no_interest_changes_without_a_call.Goals as goal

pub returns : goal.returns
returns c = calls_follow
