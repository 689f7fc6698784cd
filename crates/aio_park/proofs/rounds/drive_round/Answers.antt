use Rattle.std.proofs.Common.{refl, ap, ◌∙◌, suc, le_refl, None, Ok, Err}
use Rattle.aio_rules.specs.SharedWords.{blocking}
use Rattle.aio_shared.specs.Members.{MemberValue, moved_on}
use Rattle.aio_shared.specs.Reacting.{until, start_of}
use Rattle.aio_shared.proofs.Notifying.{notifies_nobody}
use Rattle.aio_park.proofs.Gaining.{member_itself}
use Rattle.aio_park.proofs.Holding.{try_of, vain_kept, with_bounds}
use Rattle.aio_park.proofs.Keeping.{keeps_as, keeps_member, keeps_then}
use Rattle.aio_park.proofs.rounds.drive_round.Goals as goal

pub loop-init : goal.loop-init
loop-init g c = record {
  nothing = (0, (refl, refl));
  keeps = keeps_member c.requires.belongs (member_itself _ _ _) (notifies_nobody _ _);
  cell = c.requires.cell;
  idle = c.requires.idle;
}

pub react_once-requires-clause-belongs : goal.react_once-requires-clause-belongs
react_once-requires-clause-belongs g c = c.loop.invariant.keeps.belongs

pub react_once-requires-clause-cell : goal.react_once-requires-clause-cell
react_once-requires-clause-cell g c = c.loop.invariant.cell

pub returns-in-Err-clause-idle : goal.returns-in-Err-clause-idle
returns-in-Err-clause-idle g c = c.react_once.ensures.seat ∙ ap blocking c.loop.invariant.idle

pub returns-in-Err-clause-kept : goal.returns-in-Err-clause-kept
returns-in-Err-clause-kept g c = c.react_once.ensures.kept ∙ ap (λ (x : MemberValue g.row.N.Denot). moved_on x c.react_once.new.m) (vain_kept _ _ _ _ _ c.loop.invariant.nothing.1)

pub returns-in-Err-clause-cell : goal.returns-in-Err-clause-cell
returns-in-Err-clause-cell g c = c.react_once.ensures.cell

pub returns-in-Ok-Some-clause-idle : goal.returns-in-Ok-Some-clause-idle
returns-in-Ok-Some-clause-idle g c = c.react_once.ensures.seat ∙ ap blocking c.loop.invariant.idle

pub returns-in-Ok-Some-clause-kept : goal.returns-in-Ok-Some-clause-kept
returns-in-Ok-Some-clause-kept g c = c.react_once.ensures.kept ∙ ap (λ (x : MemberValue g.row.N.Denot). moved_on x c.react_once.new.m) (vain_kept _ _ _ _ _ c.loop.invariant.nothing.1)

pub returns-in-Ok-Some-clause-cell : goal.returns-in-Ok-Some-clause-cell
returns-in-Ok-Some-clause-cell g c = c.react_once.ensures.cell

pub returns-in-Err-clause-keeps : goal.returns-in-Err-clause-keeps
returns-in-Err-clause-keeps g c = keeps_then c.loop.invariant.keeps (keeps_as (λ cause. cause) c.in-Err.ensures.keeps)

pub returns-in-Ok-Some-clause-round : goal.returns-in-Ok-Some-clause-round
returns-in-Ok-Some-clause-round g c = record {
  tries = c.loop.invariant.nothing.0;
  from = c.loop.cell;
  by = c.loop.m;
  first = c.loop.invariant.nothing.1;
  moment = g.C.Clock.latest c.loop.clock;
  not_before = c.loop.invariant.keeps.latest;
  stop = g.C.Clock.latest c.react_once.new.clock;
  not_after = le_refl _;
  reacted = c.in-Ok-Some.reacted;
  reacts = rw c.in-Ok-Some.field-0-is at (with_bounds c.args.shared.now.words.parkers c.args.shared.now.sure_of_arms None (g.C.Clock.bounds c.args.clock.now) (g.C.Clock.bounds c.loop.clock)
      (g.C.Clock.latest c.loop.clock) (g.C.Clock.latest c.react_once.new.clock) g.W.EventWait.wait_step c.loop.cell c.react_once.new.cell c.loop.m c.react_once.new.m
      (record { before = g.N.Faults.fault_count c.loop.m.notifier; after = g.N.Faults.fault_count c.react_once.new.m.notifier }) (Ok c.in-Ok-Some.field-0)
      c.loop.invariant.keeps.bounds c.in-Ok-Some.ensures.tries);
  events_are = refl;
}

pub returns-in-Ok-Some-clause-keeps : goal.returns-in-Ok-Some-clause-keeps
returns-in-Ok-Some-clause-keeps g c = keeps_then c.loop.invariant.keeps (keeps_as (λ cause. cause) c.in-Ok-Some.ensures.keeps)

pub loop-preserved : goal.loop-preserved
loop-preserved g c = record {
  nothing = (suc c.loop.invariant.nothing.0, (c.loop.cell, c.loop.m, c.loop.invariant.nothing.1, rw c.in-Ok-None.field-0-is at c.in-Ok-None.ensures.tries));
  keeps = keeps_then c.loop.invariant.keeps (keeps_as (λ cause. cause) c.in-Ok-None.ensures.keeps);
  cell = c.react_once.ensures.cell;
  idle = c.react_once.ensures.seat ∙ ap blocking c.loop.invariant.idle;
}

pub returns-in-Err-clause-fails : goal.returns-in-Err-clause-fails
returns-in-Err-clause-fails g c = record {
  before = c.loop.invariant.nothing.0;
  from = c.loop.cell;
  by = c.loop.m;
  first = c.loop.invariant.nothing.1;
  tries = try_of g.N.Faults.fault_count c.args.shared.now.words.parkers c.args.shared.now.sure_of_arms (until (g.C.Clock.latest c.react_once.new.clock) (start_of g.C.Clock.bounds g.C.Clock.latest g.W.EventWait.wait_step c.args.clock.now)) None (g.C.Clock.bounds c.loop.clock) (g.C.Clock.latest c.loop.clock) (g.C.Clock.latest c.react_once.new.clock) c.loop.cell c.react_once.new.cell c.loop.m
      c.react_once.new.m (Err c.in-Err.fault) c.loop.invariant.keeps.bounds c.loop.invariant.keeps.latest (le_refl _) c.in-Err.ensures.tries;
}
