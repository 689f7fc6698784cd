use Rattle.std.proofs.Common.{rules, ap, ◌∙◌}
use Rattle.aio_shared.proofs.Claiming.{pushes, finds_none}
use Rattle.aio_shared.proofs.round_lock.RoundLock.give.Goals as goal

pub push_as-requires-clause-rule : goal.push_as-requires-clause-rule
push_as-requires-clause-rule g c = let holds = ap (λ t. t.holds) c.claim.view_is ∙ c.requires.claim.1 in
    (pushes _ _ _ _ holds c.claim.invariant.1 (c.requires.cell.1, search rules), finds_none _ _ holds)
