use Rattle.aio_rules.proofs.RoundLockSteps.{holder_finds_none, one_holds}
use Rattle.aio_rules.proofs.claim_laws.one_member_holds_the_cell.Goals as goal

pub returns-clause-empty : goal.returns-clause-empty
returns-clause-empty g c = holder_finds_none g.X.RoundItem.says g.X.RoundItem.is_idle

pub returns-clause-one : goal.returns-clause-one
returns-clause-one g c = one_holds g.X.RoundItem.says g.X.RoundItem.is_idle
