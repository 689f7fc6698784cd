use Rattle.std.proofs.Common.{◌∙◌, refl, ap, rules, arith}
use Rattle.aio_shared.specs.Members.{MemberValue, moved_on}
use Rattle.aio_shared.specs.Reacting.{until, start_of}
use Rattle.aio_shared.proofs.Notifying.{notifies_nobody}
use Rattle.aio_park.proofs.Gaining.{member_itself}
use Rattle.aio_park.proofs.Holding.{fails_earlier, from_earlier, one_more, rounds_until}
use Rattle.aio_park.proofs.Keeping.{keeps_as, keeps_member, keeps_then}
use Rattle.aio_park.proofs.rounds.drive_rounds.Goals as goal

pub loop-init : goal.loop-init
loop-init g c = record {
  rounds = (refl, refl, refl);
  few = omega arith;
  kept = refl;
  keeps = keeps_member c.requires.belongs (member_itself _ _ _) (notifies_nobody _ _);
  cell = c.requires.cell;
  idle = c.requires.idle;
}

pub loop-preserved : goal.loop-preserved
loop-preserved g c = record {
  rounds = one_more g.N.Faults.fault_count c.args.shared.now.words.parkers c.args.shared.now.sure_of_arms (until (g.C.Clock.latest c.drive_round.new.clock) (start_of g.C.Clock.bounds g.C.Clock.latest g.W.EventWait.wait_step c.args.clock.now)) c.loop.counter c.args.cell.now c.loop.cell
      c.drive_round.new.cell c.args.m.now c.loop.m c.drive_round.new.m c.loop.events c.in-Ok.handled
      (rounds_until _ _ _ (until (g.C.Clock.latest c.loop.clock) (start_of g.C.Clock.bounds g.C.Clock.latest g.W.EventWait.wait_step c.args.clock.now)) (g.C.Clock.latest c.drive_round.new.clock) _ _ _ _ _ _ c.in-Ok.ensures.keeps.latest c.loop.invariant.rounds)
      (from_earlier _ _ _ (until (g.C.Clock.latest c.drive_round.new.clock) (start_of g.C.Clock.bounds g.C.Clock.latest g.W.EventWait.wait_step c.args.clock.now)) (g.C.Clock.bounds c.loop.clock) (g.C.Clock.latest c.loop.clock) _ _ _ _ _ c.loop.invariant.keeps.bounds c.loop.invariant.keeps.latest
      c.in-Ok.ensures.round);
  few = omega (arith, c.loop.invariant.few, c.in-Ok.ensures.few);
  kept = c.in-Ok.ensures.kept ∙ ap (λ (x : MemberValue g.row.N.Denot). moved_on x c.drive_round.new.m) c.loop.invariant.kept;
  keeps = keeps_then c.loop.invariant.keeps (keeps_as (λ cause. cause) c.in-Ok.ensures.keeps);
  cell = c.in-Ok.ensures.cell;
  idle = c.in-Ok.ensures.idle;
}

pub returns-in-Err-clause-kept : goal.returns-in-Err-clause-kept
returns-in-Err-clause-kept g c = c.in-Err.ensures.kept ∙ ap (λ (x : MemberValue g.row.N.Denot). moved_on x c.drive_round.new.m) c.loop.invariant.kept

pub returns-in-Err-clause-keeps : goal.returns-in-Err-clause-keeps
returns-in-Err-clause-keeps g c = keeps_then c.loop.invariant.keeps (keeps_as (λ cause. cause) c.in-Err.ensures.keeps)

pub returns-in-Err-clause-fails : goal.returns-in-Err-clause-fails
returns-in-Err-clause-fails g c = record {
  made = c.loop.counter;
  fewer = search rules;
  events = c.loop.events;
  last = c.loop.cell;
  by = c.loop.m;
  rounds_are = rounds_until _ _ _ (until (g.C.Clock.latest c.loop.clock) (start_of g.C.Clock.bounds g.C.Clock.latest g.W.EventWait.wait_step c.args.clock.now)) (g.C.Clock.latest c.drive_round.new.clock) _ _ _ _ _ _ c.in-Err.ensures.keeps.latest c.loop.invariant.rounds;
  fails = fails_earlier g.N.Faults.fault_count c.args.shared.now.words.parkers c.args.shared.now.sure_of_arms (until (g.C.Clock.latest c.drive_round.new.clock) (start_of g.C.Clock.bounds g.C.Clock.latest g.W.EventWait.wait_step c.args.clock.now)) (g.C.Clock.bounds c.loop.clock) (g.C.Clock.latest c.loop.clock) c.loop.cell c.drive_round.new.cell c.loop.m c.drive_round.new.m c.in-Err.fault
      c.loop.invariant.keeps.bounds c.loop.invariant.keeps.latest c.in-Err.ensures.fails;
}

pub returns-clause-rounds : goal.returns-clause-rounds
returns-clause-rounds g c = search rules
