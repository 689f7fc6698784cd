use Rattle.aio_trace2.proofs.Migrated.{migrated_answers}
use Rattle.aio_trace2.proofs.laws.a_migrated_text_answers_as_before.Goals as goal

pub returns : goal.returns
returns c = migrated_answers
