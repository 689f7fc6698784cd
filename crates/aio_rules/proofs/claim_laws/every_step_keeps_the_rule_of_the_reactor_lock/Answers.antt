use Rattle.aio_rules.proofs.RoundLockSteps.{start_meets_rule, first_push_keeps_rule, pop_keeps_rule, empty_pop_keeps_rule, push_keeps_rule, new_member_keeps_rule}
use Rattle.aio_rules.proofs.claim_laws.every_step_keeps_the_rule_of_the_reactor_lock.Goals as goal

pub returns-clause-start : goal.returns-clause-start
returns-clause-start g c = start_meets_rule g.X.RoundItem.says g.X.RoundItem.is_idle

pub returns-clause-first_push : goal.returns-clause-first_push
returns-clause-first_push g c = first_push_keeps_rule g.X.RoundItem.says g.X.RoundItem.is_idle

pub returns-clause-pop : goal.returns-clause-pop
returns-clause-pop g c = pop_keeps_rule g.X.RoundItem.says g.X.RoundItem.is_idle

pub returns-clause-empty_pop : goal.returns-clause-empty_pop
returns-clause-empty_pop g c = empty_pop_keeps_rule g.X.RoundItem.says g.X.RoundItem.is_idle

pub returns-clause-push : goal.returns-clause-push
returns-clause-push g c = push_keeps_rule g.X.RoundItem.says g.X.RoundItem.is_idle

pub returns-clause-new_member : goal.returns-clause-new_member
returns-clause-new_member g c = new_member_keeps_rule g.X.RoundItem.says g.X.RoundItem.is_idle
