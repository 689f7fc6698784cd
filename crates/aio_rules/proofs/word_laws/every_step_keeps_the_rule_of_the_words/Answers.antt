use Rattle.aio_rules.proofs.WordAccounts.{start_meets_rule, step_keeps_rule, split_keeps_rule, join_keeps_rule}
use Rattle.aio_rules.proofs.word_laws.every_step_keeps_the_rule_of_the_words.Goals as goal

pub returns-clause-start : goal.returns-clause-start
returns-clause-start c = start_meets_rule

pub returns-clause-step : goal.returns-clause-step
returns-clause-step c = step_keeps_rule

pub returns-clause-split : goal.returns-clause-split
returns-clause-split c = split_keeps_rule

pub returns-clause-join : goal.returns-clause-join
returns-clause-join c = join_keeps_rule
