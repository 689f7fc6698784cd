use Rattle.std.proofs.Common.{refl}
use Rattle.aio_edges.specs.Steps.{all_armed, without}
use Rattle.aio_edges.proofs.StepLemmas.{only_adds_keeps, steps_are_seen_to, unarmed_owes_nothing}
use Rattle.aio_edges.proofs.laws.what_is_owed_is_seen_to.Goals as goal

pub returns-clause-owed : goal.returns-clause-owed
returns-clause-owed c = λ word key. refl

pub returns-clause-seen : goal.returns-clause-seen
returns-clause-seen c = steps_are_seen_to

pub returns-clause-stays : goal.returns-clause-stays
returns-clause-stays c = only_adds_keeps

pub returns-clause-given : goal.returns-clause-given
returns-clause-given c = λ word. unarmed_owes_nothing word (without all_armed) refl refl
