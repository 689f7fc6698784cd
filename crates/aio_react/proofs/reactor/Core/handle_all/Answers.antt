use Rattle.std.proofs.Common.{refl, length, length-drop, sym, ap, subst, ◌∙◌, arith}
use Rattle.aio_base.specs.Devices.{PollerStep}
use Rattle.aio_react.specs.Cores.{CoreValue}
use Rattle.aio_react.specs.Reacting.{Handles, FaultsSince}
use Rattle.aio_react.proofs.handling.HandleRows.{rest_before, rest_none, handles_before, handles_none}
use Rattle.aio_react.proofs.rounds.RoundFaults.{handle_since}
use Rattle.aio_react.proofs.reactor.Core.handle_all.Goals as goal

pub loop-self-init : goal.loop-self-init
loop-self-init g c = record { runs = c.requires; book = refl; rest = λ last rest. rest; handles = λ last rest. rest; faults = λ start since. since }

pub loop-self-smaller : goal.loop-self-smaller
loop-self-smaller g c =
    let same = ap (λ (v : g.row.P.Denot × CoreValue). length v.1.round.hand) c.self.view_is in
    let left = ap length c.in-Ok.ensures.hand ∙ length-drop 1 c.loop-self.self.1.round.hand in
    omega (arith, c.loop-self-test.true, c.in_hand.ensures.value, same, left)

pub loop-self-preserved : goal.loop-self-preserved
loop-self-preserved g c = record {
  runs = c.in-Ok.ensures.runs ∙ c.loop-self.invariant.runs;
  book = c.in-Ok.ensures.book ∙ c.loop-self.invariant.book;
  rest = λ last rest. c.loop-self.invariant.rest last
      (rest_before (PollerStep g.P.Arm.arm_step g.P.EventWait.wait_step) g.P.Arm.interests _ _ c.loop-self.self c.handle.new.self last
      c.in-Ok.ensures.first c.in-Ok.ensures.hand c.in-Ok.ensures.part rest);
  handles = λ last rest. c.loop-self.invariant.handles last
      (handles_before (PollerStep g.P.Arm.arm_step g.P.EventWait.wait_step) g.P.Arm.interests _ c.loop-self.self c.handle.new.self last c.in-Ok.ensures.meets rest);
  faults = λ start since. handle_since g.P.Faults.fault_count g.P.Faults.is_sure start c.loop-self.self.0 c.handle.new.self.0 c.loop-self.self.1.round.fault c.handle.new.self.1.round.fault
      _ (c.loop-self.invariant.faults start since) c.in-Ok.ensures.faults c.in-Ok.ensures.fault c.in-Ok.ensures.kept;
}

pub returns-in-Err-clause-handles : goal.returns-in-Err-clause-handles
returns-in-Err-clause-handles g c =
    c.loop-self.invariant.handles c.handle.new.self
    (subst (λ (old : g.row.P.Denot × CoreValue). Handles (PollerStep g.P.Arm.arm_step g.P.EventWait.wait_step) g.P.Arm.interests old c.handle.new.self) c.in-Err.ensures.refused
    (handles_none (PollerStep g.P.Arm.arm_step g.P.EventWait.wait_step) g.P.Arm.interests c.handle.new.self))

pub returns-in-Err-clause-faults : goal.returns-in-Err-clause-faults
returns-in-Err-clause-faults g c = λ start since.
    subst (λ (now : g.row.P.Denot × CoreValue). FaultsSince g.P.Faults.fault_count g.P.Faults.is_sure start now.0 now.1.round.fault) (sym c.in-Err.ensures.refused)
    (c.loop-self.invariant.faults start since)

pub returns-clause-part : goal.returns-clause-part
returns-clause-part g c = c.loop-self.invariant.rest c.loop-self.self (rest_none (PollerStep g.P.Arm.arm_step g.P.EventWait.wait_step) g.P.Arm.interests c.loop-self.self
    (sym (ap (λ (v : g.row.P.Denot × CoreValue). v.1.round.hand) c.self.view_is) ∙ c.in_hand.ensures.none (omega arith)))

pub returns-clause-handles : goal.returns-clause-handles
returns-clause-handles g c = c.loop-self.invariant.handles c.loop-self.self (handles_none (PollerStep g.P.Arm.arm_step g.P.EventWait.wait_step) g.P.Arm.interests c.loop-self.self)

pub returns-clause-hand : goal.returns-clause-hand
returns-clause-hand g c =
    sym (ap (λ (v : g.row.P.Denot × CoreValue). v.1.round.hand) c.self.view_is) ∙ c.in_hand.ensures.none (omega arith)

pub returns-clause-runs : goal.returns-clause-runs
returns-clause-runs g c = c.loop-self.invariant.runs

pub returns-clause-faults : goal.returns-clause-faults
returns-clause-faults g c = λ start since. c.loop-self.invariant.faults start since

pub returns-in-Err-clause-wanting : goal.returns-in-Err-clause-wanting
returns-in-Err-clause-wanting g c = λ none.
    let same = ap (λ (v : g.row.P.Denot × CoreValue). length v.1.round.hand) c.self.view_is in
    let left = ap length (sym (ap (λ (v : g.row.P.Denot × CoreValue). v.1.round.hand) c.in-Err.ensures.refused) ∙ none) in
    absurd (omega (arith, c.loop-self-test.true, c.in_hand.ensures.value, same, left))

pub returns-in-Err-clause-book : goal.returns-in-Err-clause-book
returns-in-Err-clause-book g c = ap (λ (v : g.row.P.Denot × CoreValue). v.1.book) c.in-Err.ensures.refused ∙ c.loop-self.invariant.book

pub returns-clause-book : goal.returns-clause-book
returns-clause-book g c = c.loop-self.invariant.book
