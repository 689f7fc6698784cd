use Rattle.aio_laws.proofs.steps.RefusalLemmas.{refused_only_counts, refusal_leaves}
use Rattle.aio_laws.proofs.laws.a_refused_step_changes_nothing.Goals as goal

pub returns-clause-counted : goal.returns-clause-counted
returns-clause-counted c = refused_only_counts

pub returns-clause-leaves : goal.returns-clause-leaves
returns-clause-leaves c = refusal_leaves
