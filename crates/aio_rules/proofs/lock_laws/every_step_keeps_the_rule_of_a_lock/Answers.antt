use Rattle.aio_rules.proofs.LockSteps.{start_meets_rule, owners_keep_rule, exchange_keeps_rule, lost_exchange_keeps_rule, arrival_keeps_rule, late_arrival_keeps_rule, slot_goes_back, slot_comes_out, store_keeps_rule, join_keeps_rule}
use Rattle.aio_rules.proofs.lock_laws.every_step_keeps_the_rule_of_a_lock.Goals as goal

pub returns-clause-start : goal.returns-clause-start
returns-clause-start g c = start_meets_rule g.T.Noted.first_note g.T.Noted.second_note

pub returns-clause-owners : goal.returns-clause-owners
returns-clause-owners g c = owners_keep_rule g.T.Noted.first_note g.T.Noted.second_note

pub returns-clause-exchange : goal.returns-clause-exchange
returns-clause-exchange g c = exchange_keeps_rule g.T.Noted.first_note g.T.Noted.second_note

pub returns-clause-lost_exchange : goal.returns-clause-lost_exchange
returns-clause-lost_exchange g c = lost_exchange_keeps_rule g.T.Noted.first_note g.T.Noted.second_note

pub returns-clause-arrival : goal.returns-clause-arrival
returns-clause-arrival g c = arrival_keeps_rule g.T.Noted.first_note g.T.Noted.second_note

pub returns-clause-late_arrival : goal.returns-clause-late_arrival
returns-clause-late_arrival g c = late_arrival_keeps_rule g.T.Noted.first_note g.T.Noted.second_note

pub returns-clause-slot_goes_back : goal.returns-clause-slot_goes_back
returns-clause-slot_goes_back g c = slot_goes_back g.T.Noted.first_note g.T.Noted.second_note

pub returns-clause-slot_comes_out : goal.returns-clause-slot_comes_out
returns-clause-slot_comes_out g c = slot_comes_out g.T.Noted.first_note g.T.Noted.second_note

pub returns-clause-store : goal.returns-clause-store
returns-clause-store g c = store_keeps_rule g.T.Noted.first_note g.T.Noted.second_note

pub returns-clause-join : goal.returns-clause-join
returns-clause-join g c = join_keeps_rule g.T.Noted.first_note g.T.Noted.second_note
