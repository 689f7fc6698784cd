use Rattle.aio_laws.proofs.steps.Sourcing.{sources_follow}
use Rattle.aio_laws.proofs.laws.only_add_and_del_change_the_sources.Goals as goal

pub returns : goal.returns
returns c = sources_follow
