use Rattle.aio_trace2.proofs.Migrated.{migrated_says}
use Rattle.aio_trace2.proofs.laws.a_migrated_text_says_the_same_steps.Goals as goal

pub returns : goal.returns
returns c = migrated_says
