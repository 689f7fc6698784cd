use Rattle.aio_laws.proofs.timers.PassLemmas.{pass_leaves, pass_takes, begin_leaves, finish_leaves, react_leaves}
use Rattle.aio_laws.proofs.laws.no_due_timer_outlives_a_pass.Goals as goal

pub returns-clause-pass : goal.returns-clause-pass
returns-clause-pass c = pass_leaves

pub returns-clause-taken : goal.returns-clause-taken
returns-clause-taken c = pass_takes

pub returns-clause-begin : goal.returns-clause-begin
returns-clause-begin c = begin_leaves

pub returns-clause-finish : goal.returns-clause-finish
returns-clause-finish c = finish_leaves

pub returns-clause-react : goal.returns-clause-react
returns-clause-react c = react_leaves
