use Rattle.std.proofs.Common.{refl, sym, ap, ◌∙◌, suc, le_refl, None, Ok, Err}
use Rattle.aio_rules.specs.declared.seats.SeatView.{SeatView}
use Rattle.aio_rules.specs.declared.seats.WordStep.TheVariants as word_step
use Rattle.aio_rules.specs.SharedWords.{after, blocking}
use Rattle.aio_words.specs.Seats.{SeatValue}
use Rattle.aio_shared.specs.Members.{MemberValue}
use Rattle.aio_shared.proofs.Notifying.{notifies_nobody}
use Rattle.aio_shared.specs.Reacting.{until, start_of}
use Rattle.aio_park.proofs.Gaining.{gains_itself, gains_neither, member_itself}
use Rattle.aio_park.proofs.Holding.{cell_step, tries_fail, tries_further, tries_until, try_of}
use Rattle.aio_park.proofs.Keeping.{keeps_as, keeps_member, keeps_then}
use Rattle.aio_park.proofs.Looking.{looks_further, looks_itself, looks_round, looks_woken}
use Rattle.aio_park.proofs.blocking.react_until_woken.Goals as goal

pub loop-init : goal.loop-init
loop-init g c = record {
  took = gains_itself _;
  mode = refl;
  claim = refl;
  keeps = keeps_member c.requires.belongs (member_itself _ _ _) (notifies_nobody _ _);
  cell = c.requires.cell;
  tries = λ parker is. (0, (refl, refl));
  looks = λ parker is. looks_itself parker _ _;
}

pub returns-in-Err-clause-took : goal.returns-in-Err-clause-took
returns-in-Err-clause-took g c = gains_neither c.args.m.now.pass.view c.loop.m.pass.view c.react_once.new.m.pass.view c.loop.invariant.took c.react_once.ensures.took

pub returns-in-Err-clause-keeps : goal.returns-in-Err-clause-keeps
returns-in-Err-clause-keeps g c = keeps_then c.loop.invariant.keeps (keeps_as (λ cause. cause) c.in-Err.ensures.keeps)

pub loop-preserved : goal.loop-preserved
loop-preserved g c = record {
  took = gains_neither c.args.m.now.pass.view c.loop.m.pass.view c.react_once.new.m.pass.view c.loop.invariant.took c.react_once.ensures.took;
  mode = c.react_once.ensures.seat
      ∙ ap blocking (c.in-None-take_or_wait.ensures.none c.requires.blocks.0 (ap (λ (s : SeatValue). s.view.mode) c.seat.ensures.value ∙ c.loop.invariant.mode ∙ c.requires.blocks.1))
      ∙ sym c.requires.blocks.1;
  claim = ap (λ (x : MemberValue g.row.N.Denot). x.claim) c.react_once.ensures.kept ∙ c.loop.invariant.claim;
  keeps = keeps_then c.loop.invariant.keeps (keeps_as (λ cause. cause) c.in-Ok.ensures.keeps);
  cell = c.react_once.ensures.cell;
  tries = λ parker is. (
    suc (c.loop.invariant.tries parker is).0,
    tries_further g.N.Faults.fault_count c.args.shared.now.words.parkers c.args.shared.now.sure_of_arms (until (g.C.Clock.latest c.react_once.new.clock) (start_of g.C.Clock.bounds g.C.Clock.latest g.W.EventWait.wait_step c.args.clock.now)) parker (c.loop.invariant.tries parker is).0 c.args.cell.now c.loop.cell (record c.loop.cell { seat = c.take_or_wait.new.s }) c.react_once.new.cell c.args.m.now c.loop.m c.react_once.new.m
        (tries_until g.N.Faults.fault_count c.args.shared.now.words.parkers c.args.shared.now.sure_of_arms (until (g.C.Clock.latest c.loop.clock) (start_of g.C.Clock.bounds g.C.Clock.latest g.W.EventWait.wait_step c.args.clock.now)) (g.C.Clock.latest c.react_once.new.clock) parker (c.loop.invariant.tries parker is).0 _ _ _ _ c.in-Ok.ensures.keeps.latest (c.loop.invariant.tries parker is).1)
        (cell_step (word_step.LoadMask parker 0) c.loop.cell _ c.take_or_wait.new.s c.seat.ensures.value c.take_or_wait.ensures.words
        (c.in-None-take_or_wait.ensures.view parker (ap (λ (s : SeatValue). s.view.mode) c.seat.ensures.value ∙ c.loop.invariant.mode ∙ is)))
        c.in-Ok.field-0
        (try_of g.N.Faults.fault_count c.args.shared.now.words.parkers c.args.shared.now.sure_of_arms (until (g.C.Clock.latest c.react_once.new.clock) (start_of g.C.Clock.bounds g.C.Clock.latest g.W.EventWait.wait_step c.args.clock.now)) None (g.C.Clock.bounds c.loop.clock) (g.C.Clock.latest c.loop.clock) (g.C.Clock.latest c.react_once.new.clock) (record c.loop.cell { seat = c.take_or_wait.new.s }) c.react_once.new.cell c.loop.m c.react_once.new.m (Ok c.in-Ok.field-0)
        c.loop.invariant.keeps.bounds c.loop.invariant.keeps.latest (le_refl _) c.in-Ok.ensures.tries),
  );
  looks = λ parker is.
      looks_further parker _ c.args.cell.now.seat.view c.loop.cell.seat.view c.react_once.new.cell.seat.view (c.loop.invariant.looks parker is)
      (looks_round parker c.loop.cell.seat.view c.take_or_wait.new.s.view c.react_once.new.cell.seat.view
      (c.in-None-take_or_wait.ensures.view parker (ap (λ (s : SeatValue). s.view.mode) c.seat.ensures.value ∙ c.loop.invariant.mode ∙ is)
      ∙ ap (λ (s : SeatValue). after (word_step.LoadMask parker 0) s.view) c.seat.ensures.value)
      (c.react_once.ensures.looks parker));
}

pub returns-in-Err-clause-looks : goal.returns-in-Err-clause-looks
returns-in-Err-clause-looks g c parker is =
    looks_further parker _ c.args.cell.now.seat.view c.loop.cell.seat.view c.react_once.new.cell.seat.view (c.loop.invariant.looks parker is)
    (looks_round parker c.loop.cell.seat.view c.take_or_wait.new.s.view c.react_once.new.cell.seat.view
    (c.in-None-take_or_wait.ensures.view parker (ap (λ (s : SeatValue). s.view.mode) c.seat.ensures.value ∙ c.loop.invariant.mode ∙ is)
    ∙ ap (λ (s : SeatValue). after (word_step.LoadMask parker 0) s.view) c.seat.ensures.value)
    (c.react_once.ensures.looks parker))

pub returns-in-Some-take_or_wait-clause-looks : goal.returns-in-Some-take_or_wait-clause-looks
returns-in-Some-take_or_wait-clause-looks g c parker is =
    looks_further parker _ c.args.cell.now.seat.view c.loop.cell.seat.view c.take_or_wait.new.s.view (c.loop.invariant.looks parker is)
    (looks_woken parker _ c.loop.cell.seat.view c.take_or_wait.new.s.view
    (c.in-Some-take_or_wait.ensures.view parker (ap (λ (s : SeatValue). s.view.mode) c.seat.ensures.value ∙ c.loop.invariant.mode ∙ is)
    ∙ ap (λ (s : SeatValue). after (word_step.LoadMask parker c.in-Some-take_or_wait.field-0) s.view) c.seat.ensures.value))

pub returns-in-Some-take_or_wait-clause-woken : goal.returns-in-Some-take_or_wait-clause-woken
returns-in-Some-take_or_wait-clause-woken g c parker is = (
  c.loop.cell.seat.view.did,
  _,
  ap (λ (v : SeatView). v.did)
      (c.in-Some-take_or_wait.ensures.view parker (ap (λ (s : SeatValue). s.view.mode) c.seat.ensures.value ∙ c.loop.invariant.mode ∙ is)
      ∙ ap (λ (s : SeatValue). after (word_step.LoadMask parker c.in-Some-take_or_wait.field-0) s.view) c.seat.ensures.value),
  c.in-Some-take_or_wait.ensures.some.0,
)

pub returns-in-Err-clause-tries : goal.returns-in-Err-clause-tries
returns-in-Err-clause-tries g c parker is =
    tries_fail g.N.Faults.fault_count c.args.shared.now.words.parkers c.args.shared.now.sure_of_arms (until (g.C.Clock.latest c.react_once.new.clock) (start_of g.C.Clock.bounds g.C.Clock.latest g.W.EventWait.wait_step c.args.clock.now)) parker (c.loop.invariant.tries parker is).0 c.args.cell.now c.loop.cell (record c.loop.cell { seat = c.take_or_wait.new.s }) c.react_once.new.cell c.args.m.now c.loop.m c.react_once.new.m
    (tries_until g.N.Faults.fault_count c.args.shared.now.words.parkers c.args.shared.now.sure_of_arms (until (g.C.Clock.latest c.loop.clock) (start_of g.C.Clock.bounds g.C.Clock.latest g.W.EventWait.wait_step c.args.clock.now)) (g.C.Clock.latest c.react_once.new.clock) parker (c.loop.invariant.tries parker is).0 _ _ _ _ c.in-Err.ensures.keeps.latest (c.loop.invariant.tries parker is).1)
    (cell_step (word_step.LoadMask parker 0) c.loop.cell _ c.take_or_wait.new.s c.seat.ensures.value c.take_or_wait.ensures.words
    (c.in-None-take_or_wait.ensures.view parker (ap (λ (s : SeatValue). s.view.mode) c.seat.ensures.value ∙ c.loop.invariant.mode ∙ is)))
    (Unit {0}) c.in-Err.fault
    (try_of g.N.Faults.fault_count c.args.shared.now.words.parkers c.args.shared.now.sure_of_arms (until (g.C.Clock.latest c.react_once.new.clock) (start_of g.C.Clock.bounds g.C.Clock.latest g.W.EventWait.wait_step c.args.clock.now)) None (g.C.Clock.bounds c.loop.clock) (g.C.Clock.latest c.loop.clock) (g.C.Clock.latest c.react_once.new.clock) (record c.loop.cell { seat = c.take_or_wait.new.s }) c.react_once.new.cell c.loop.m c.react_once.new.m (Err c.in-Err.fault)
    c.loop.invariant.keeps.bounds c.loop.invariant.keeps.latest (le_refl _) c.in-Err.ensures.tries)

pub returns-in-Some-take_or_wait-clause-tries : goal.returns-in-Some-take_or_wait-clause-tries
returns-in-Some-take_or_wait-clause-tries g c parker is = (
  (c.loop.invariant.tries parker is).0,
  c.in-Some-take_or_wait.field-0,
  c.loop.cell,
  (c.loop.invariant.tries parker is).1,
  c.in-Some-take_or_wait.ensures.some.0,
  cell_step (word_step.LoadMask parker c.in-Some-take_or_wait.field-0) c.loop.cell _ c.take_or_wait.new.s c.seat.ensures.value c.take_or_wait.ensures.words
      (c.in-Some-take_or_wait.ensures.view parker (ap (λ (s : SeatValue). s.view.mode) c.seat.ensures.value ∙ c.loop.invariant.mode ∙ is)),
)

pub returns-in-Some-take_or_wait-clause-took : goal.returns-in-Some-take_or_wait-clause-took
returns-in-Some-take_or_wait-clause-took g c = c.loop.invariant.took

pub returns-in-Some-take_or_wait-clause-keeps : goal.returns-in-Some-take_or_wait-clause-keeps
returns-in-Some-take_or_wait-clause-keeps g c = c.loop.invariant.keeps

pub returns-in-Some-take_or_wait-clause-claim : goal.returns-in-Some-take_or_wait-clause-claim
returns-in-Some-take_or_wait-clause-claim g c = c.loop.invariant.claim

pub react_once-requires-clause-belongs : goal.react_once-requires-clause-belongs
react_once-requires-clause-belongs g c = c.loop.invariant.keeps.belongs

pub returns-in-Err-clause-mode : goal.returns-in-Err-clause-mode
returns-in-Err-clause-mode g c =
    c.react_once.ensures.seat
    ∙ ap blocking (c.in-None-take_or_wait.ensures.none c.requires.blocks.0 (ap (λ (s : SeatValue). s.view.mode) c.seat.ensures.value ∙ c.loop.invariant.mode ∙ c.requires.blocks.1))
    ∙ sym c.requires.blocks.1

pub returns-in-Err-clause-claim : goal.returns-in-Err-clause-claim
returns-in-Err-clause-claim g c = ap (λ (x : MemberValue g.row.N.Denot). x.claim) c.react_once.ensures.kept ∙ c.loop.invariant.claim

pub returns-in-Err-clause-cell : goal.returns-in-Err-clause-cell
returns-in-Err-clause-cell g c = c.react_once.ensures.cell
