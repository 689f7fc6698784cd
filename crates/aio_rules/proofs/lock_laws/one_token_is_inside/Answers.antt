use Rattle.aio_rules.proofs.LockSteps.{one_is_inside}
use Rattle.aio_rules.proofs.lock_laws.one_token_is_inside.Goals as goal

pub returns : goal.returns
returns g c = one_is_inside g.T.Noted.first_note g.T.Noted.second_note
