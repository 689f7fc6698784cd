use Rattle.aio_laws.proofs.rounds.RoundArms.{round_arming}
use Rattle.aio_laws.proofs.steps.Mending.{broken_follows}
use Rattle.aio_laws.proofs.laws.a_source_is_broken_where_its_last_arm_failed.Goals as goal

pub returns-clause-step : goal.returns-clause-step
returns-clause-step c = broken_follows

pub returns-clause-round : goal.returns-clause-round
returns-clause-round c = round_arming
