use Rattle.std.proofs.Common.{◌≡◌, arith}
use Rattle.aio_shared.proofs.Trying.{found_full_later, kept_out, last_later, later_further, tried_later}
use Rattle.aio_shared.proofs.shared.Shared.carry_out.Goals as goal

pub returns-in_err-drain_and_push-clause-later : goal.returns-in_err-drain_and_push-clause-later
returns-in_err-drain_and_push-clause-later g c =
    later_further _ _ _ (found_full_later _ _ _ c.loop-tries.invariant.0) (tried_later _ _ _ _ c.drain_and_push.ensures.tries)

pub returns-then-branch-clause-later : goal.returns-then-branch-clause-later
returns-then-branch-clause-later g c =
    later_further _ _ _ (found_full_later _ _ _ c.loop-tries.invariant.0) (tried_later _ _ _ _ c.drain_and_push.ensures.tries)

pub returns-clause-done : goal.returns-clause-done
returns-clause-done g c =
    let all : c.loop-tries.tries ≡ 1000 = omega (arith, c.loop-tries-test.false, c.loop-tries.invariant.1) in
    kept_out _ _ _ _ _ _ all c.loop-tries.invariant.0 c.drain_and_apply.ensures.applies

pub returns-clause-later : goal.returns-clause-later
returns-clause-later g c = last_later _ _ _ _ _ _ c.loop-tries.invariant.0 c.drain_and_apply.ensures.applies c.drain_and_apply.ensures.refused
