use Rattle.std.proofs.Common.{◌∙◌, None, [], refl, sym, subst, arith}
use Rattle.aio_base.specs.declared.steps.Step.TheVariants as step
use Rattle.aio_base.specs.Devices.{PollerStep}
use Rattle.aio_source.specs.Lent.{arm_answer}
use Rattle.aio_source.specs.InHand.{first_interest, arm_told}
use Rattle.std.specs.Prelude.{IfOk}
use Rattle.aio_react.specs.declared.outcomes.Handled.{Handled}
use Rattle.aio_react.specs.Asking.{UsesPoller, handle_part}
use Rattle.aio_react.specs.Cores.{CoreValue}
use Rattle.aio_react.proofs.rounds.FirstEvent.{first_of}
use Rattle.aio_react.proofs.handling.HandleLent.{handled_lent}
use Rattle.aio_react.proofs.handling.HandleMeets.{handle_idle, handle_empty, handle_dropped, handle_answered, handle_unanswered}
use Rattle.aio_react.proofs.listeners.HeldSources.{HoldsOn, holds_itself, key_is, keyed_on, listed_on, handled_on}
use Rattle.aio_react.proofs.steps.PartMeets.{part_steps, replies_step}
use Rattle.aio_react.proofs.rounds.IdleRounds.{told_running, told_idle}
use Rattle.aio_react.proofs.sources.SourceChanges.{placed_again}
use Rattle.aio_react.proofs.reactor.Core.handle.Goals as goal
use Rattle.aio_react.proofs.reactor.Core.handle.Goals.{in-Ok, in-Err}

pub returns-then-is_idle-clause-part : goal.returns-then-is_idle-clause-part
returns-then-is_idle-clause-part g c limit =
    let i = c.self.inside in
    rw (← c.self.view_is) (handle_idle (PollerStep g.P.Arm.arm_step g.P.EventWait.wait_step) g.P.Arm.interests i.poller _ limit (told_idle c.is_idle.result i.round.running c.is_idle.ensures c.if-is_idle.true))

pub returns-then-is_idle-clause-meets : goal.returns-then-is_idle-clause-meets
returns-then-is_idle-clause-meets g c =
    part_steps (PollerStep g.P.Arm.arm_step g.P.EventWait.wait_step) g.P.Arm.interests step.Handle None _ [] None _ _ (returns-then-is_idle-clause-part g c None)

pub returns-in_default-clause-part : goal.returns-in_default-clause-part
returns-in_default-clause-part g c limit =
    let i = c.self.inside in
    rw (← c.self.view_is) (handle_empty (PollerStep g.P.Arm.arm_step g.P.EventWait.wait_step) g.P.Arm.interests i.poller _ limit
    (told_running c.is_idle.result i.round.running c.is_idle.ensures c.if-is_idle.false) (c.peek.ensures.none c.in_default.is))

pub returns-in_default-clause-meets : goal.returns-in_default-clause-meets
returns-in_default-clause-meets g c =
    part_steps (PollerStep g.P.Arm.arm_step g.P.EventWait.wait_step) g.P.Arm.interests step.Handle None _ [] None _ _ (returns-in_default-clause-part g c None)

pub invariant_of-self : goal.invariant_of-self
invariant_of-self g c =
    let i = c.self.inside in
    let key = c.in-Some.event.key.0 in
    let e = c.in-Some-get_mut.entry.now in
    let is = sym c.in-Some-get_mut.ensures.value in
    let on : HoldsOn e.source c.handle.new.s = elim c.match-handle.branch [
      | in-Ok w ↦ handled_on e.source c.handle.new.s (first_interest i.round.hand) i.round.number (arm_answer (arm_told w.in-Ok.fault)) w.in-Ok.ensures.source
      | in-Err w ↦ subst (HoldsOn e.source) (sym w.in-Err.ensures.refused.1) (holds_itself e.source)
    ] in (
      keyed_on i.sources key e _ is on c.self.invariant.0,
      listed_on i.sources i.listeners key e _ is on refl c.self.invariant.1,
      omega arith,
    )

pub returns-after-handle-clause-part : goal.returns-after-handle-clause-part
returns-after-handle-clause-part g c limit =
    let i = c.self.inside in
    let key = c.in-Some.event.key in
    let e = c.in-Some-get_mut.entry.now in
    let hand = first_of i.round.hand c.in-Some.event (sym c.peek.ensures.value ∙ c.in-Some.is) in
    let running = told_running c.is_idle.result i.round.running c.is_idle.ensures c.if-is_idle.false in
    let is = sym c.in-Some-get_mut.ensures.value in
    rw (← c.self.view_is)
    (elim c.match-handle.branch [
      | in-Ok w ↦ handle_answered g.P.Arm.arm_step g.P.EventWait.wait_step g.P.Arm.interests i.poller c.handle.new.arm _ c.in-Some.event e c.handle.new.s c.handle.new.self w.in-Ok.fault limit c.match-handle.result
          running hand (key_is i.sources key e c.self.invariant.0 is) is w.result-is w.in-Ok.ensures.source w.in-Ok.ensures.round w.in-Ok.ensures.lent.once w.in-Ok.ensures.lent.interests
      | in-Err w ↦ handle_unanswered (PollerStep g.P.Arm.arm_step g.P.EventWait.wait_step) g.P.Arm.interests _ _ limit c.match-handle.result w.result-is
    ])

pub returns-after-handle-clause-meets : goal.returns-after-handle-clause-meets
returns-after-handle-clause-meets g c =
    replies_step (PollerStep g.P.Arm.arm_step g.P.EventWait.wait_step) g.P.Arm.interests step.Handle None [] None _ _ _ (returns-after-handle-clause-part g c None)

pub returns-in-None-clause-part : goal.returns-in-None-clause-part
returns-in-None-clause-part g c limit =
    let i = c.self.inside in
    let key = c.in-Some.event.key.0 in
    let hand = first_of i.round.hand c.in-Some.event (sym c.peek.ensures.value ∙ c.in-Some.is) in
    let is = sym c.in-None.ensures.value in
    rw (← c.self.view_is, c.skip.ensures)
    (handle_dropped (PollerStep g.P.Arm.arm_step g.P.EventWait.wait_step) g.P.Arm.interests i.poller _ c.in-Some.event limit
    (told_running c.is_idle.result i.round.running c.is_idle.ensures c.if-is_idle.false) hand is)

pub returns-in-None-clause-meets : goal.returns-in-None-clause-meets
returns-in-None-clause-meets g c =
    part_steps (PollerStep g.P.Arm.arm_step g.P.EventWait.wait_step) g.P.Arm.interests step.Handle None _ [] None _ _ (returns-in-None-clause-part g c None)

pub returns-after-handle-clause-refused : goal.returns-after-handle-clause-refused
returns-after-handle-clause-refused g c =
    let same = placed_again c.self.inside.sources c.in-Some.event.key.0 c.in-Some-get_mut.entry.now (sym c.in-Some-get_mut.ensures.value) in
    elim c.match-handle.branch [
      | in-Ok w ↦ rw w.result-is tt
      | in-Err w ↦ let back = w.in-Err.ensures.refused in rw (w.result-is, ← c.self.view_is, back.0, back.1, back.2, same)
    ]

pub returns-after-handle-clause-lent : goal.returns-after-handle-clause-lent
returns-after-handle-clause-lent g c =
    let i = c.self.inside in
    let hand = first_of i.round.hand c.in-Some.event (sym c.peek.ensures.value ∙ c.in-Some.is) in
    let core : CoreValue = record { sources = i.sources; listeners = i.listeners; ticker = i.ticker; book = i.book.entries; ids_drawn = i.ids_drawn; round = i.round } in
    elim c.match-handle.branch [
      | in-Ok w ↦ subst (λ s. IfOk c.match-handle.result (λ (handled : Handled).
          UsesPoller g.P.Arm.arm_step g.P.Arm.interests g.P.Arm.rest g.P.Faults.fault_count g.P.Faults.is_sure (handle_part s.1) (arm_told handled.fault) s.0 c.handle.new.arm)) c.self.view_is
          (handled_lent g.P.Arm.arm_step g.P.Arm.interests g.P.Arm.rest g.P.Faults.fault_count g.P.Faults.is_sure i.poller c.handle.new.arm core c.in-Some.event c.in-Some-get_mut.entry.now w.in-Ok.fault
          c.match-handle.result hand (sym c.in-Some-get_mut.ensures.value) w.result-is w.in-Ok.ensures.lent)
      | in-Err w ↦ rw w.result-is tt
    ]
