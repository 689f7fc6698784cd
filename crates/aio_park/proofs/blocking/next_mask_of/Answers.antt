use Rattle.std.proofs.Common.{refl, subst, suc}
use Rattle.aio_park.specs.Blocking.{Gains, mask_list}
use Rattle.aio_shared.proofs.Notifying.{notifies_nobody}
use Rattle.aio_park.proofs.Gaining.{gains_after, gains_itself, gains_neither, gains_nothing, mask_some, member_itself}
use Rattle.aio_park.proofs.Keeping.{keeps_as, keeps_member, keeps_then}
use Rattle.aio_park.proofs.Turning.{turns_end, turns_more}
use Rattle.aio_park.proofs.blocking.next_mask_of.Goals as goal

pub loop-init : goal.loop-init
loop-init g c = record { took = gains_itself _; turns = (0, refl); keeps = keeps_member c.requires.belongs (member_itself _ _ _) (notifies_nobody _ _) }

pub returns-in-Err-clause-keeps : goal.returns-in-Err-clause-keeps
returns-in-Err-clause-keeps g c = keeps_then c.loop.invariant.keeps c.in-Err.ensures.keeps

pub returns-then-mask-ne0-clause-took : goal.returns-then-mask-ne0-clause-took
returns-then-mask-ne0-clause-took g c =
    subst (Gains c.args.parker c.args.m.now.pass.view c.turn.new.m.pass.view) (mask_some c.in-Ok.mask c.if-mask-ne0.true)
    (gains_after c.args.parker c.args.m.now.pass.view c.loop.m.pass.view c.turn.new.m.pass.view (mask_list c.in-Ok.mask) c.loop.invariant.took c.in-Ok.ensures.took)

pub returns-then-mask-ne0-clause-keeps : goal.returns-then-mask-ne0-clause-keeps
returns-then-mask-ne0-clause-keeps g c = keeps_then c.loop.invariant.keeps c.in-Ok.ensures.keeps

pub loop-preserved : goal.loop-preserved
loop-preserved g c = record {
  took = gains_neither c.args.m.now.pass.view c.loop.m.pass.view c.turn.new.m.pass.view c.loop.invariant.took
      (gains_nothing c.args.parker c.in-Ok.mask c.loop.m.pass.view c.turn.new.m.pass.view c.if-mask-ne0.false c.in-Ok.ensures.took);
  turns = (
    suc c.loop.invariant.turns.0,
    turns_more g.N.Faults.fault_count g.C.Clock.bounds g.C.Clock.latest g.W.EventWait.wait_step c.args.shared.now.words.parkers c.args.shared.now.sure_of_arms c.args.parker c.args.clock.now c.loop.clock c.turn.new.clock c.loop.invariant.turns.0 c.args.m.now c.loop.m c.turn.new.m
        c.loop.invariant.keeps.bounds c.loop.invariant.keeps.latest c.in-Ok.ensures.keeps.latest c.loop.invariant.turns.1 c.in-Ok.mask c.if-mask-ne0.false c.in-Ok.ensures.swaps,
  );
  keeps = keeps_then c.loop.invariant.keeps (keeps_as (λ cause. cause) c.in-Ok.ensures.keeps);
}

pub returns-in-Err-clause-most : goal.returns-in-Err-clause-most
returns-in-Err-clause-most g c =
    let took = c.in-Err.ensures.most in
    (took.0, gains_after c.args.parker c.args.m.now.pass.view c.loop.m.pass.view c.turn.new.m.pass.view (mask_list took.0) c.loop.invariant.took took.1)

pub returns-in-Err-clause-turns : goal.returns-in-Err-clause-turns
returns-in-Err-clause-turns g c =
    turns_end g.N.Faults.fault_count g.C.Clock.bounds g.C.Clock.latest g.W.EventWait.wait_step c.args.shared.now.words.parkers c.args.shared.now.sure_of_arms c.args.parker c.args.clock.now c.loop.clock c.turn.new.clock c.loop.invariant.turns.0 c.args.m.now c.loop.m c.turn.new.m
    c.loop.invariant.keeps.bounds c.loop.invariant.keeps.latest c.in-Err.ensures.keeps.latest c.loop.invariant.turns.1 _ c.in-Err.ensures.swaps

pub returns-then-mask-ne0-clause-turns : goal.returns-then-mask-ne0-clause-turns
returns-then-mask-ne0-clause-turns g c =
    turns_end g.N.Faults.fault_count g.C.Clock.bounds g.C.Clock.latest g.W.EventWait.wait_step c.args.shared.now.words.parkers c.args.shared.now.sure_of_arms c.args.parker c.args.clock.now c.loop.clock c.turn.new.clock c.loop.invariant.turns.0 c.args.m.now c.loop.m c.turn.new.m
    c.loop.invariant.keeps.bounds c.loop.invariant.keeps.latest c.in-Ok.ensures.keeps.latest c.loop.invariant.turns.1 _ c.in-Ok.ensures.swaps
