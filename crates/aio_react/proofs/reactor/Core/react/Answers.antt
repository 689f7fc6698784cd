use Rattle.std.proofs.Common.{◌≡◌, ◌∙◌, None, Some, Ok, sym, ap, subst}
use Rattle.aio_base.specs.declared.outcomes.Waited.{Waited}
use Rattle.aio_base.specs.Devices.{PollerStep}
use Rattle.aio_base.specs.Timers.{due_wakers}
use Rattle.aio_react.specs.Cores.{CoreValue}
use Rattle.aio_react.specs.Reacting.{Handles}
use Rattle.aio_react.specs.Replies.{empty_hand_refusal, wait_phase, wait_given}
use Rattle.aio_facts.proofs.BookPasses.{none_due_left}
use Rattle.aio_react.proofs.rounds.ReactMeets.{react_meets, round_alone, react_refused, react_stopped, not_busy, open_hand}
use Rattle.aio_react.proofs.reactor.Core.react.Goals as goal
use Rattle.aio_react.proofs.reactor.Core.react.Goals.{in-Ok-Given, in-Ok-Interrupted, in-Err-wait}

pub returns-in-Err-clause-meets : goal.returns-in-Err-clause-meets
returns-in-Err-clause-meets g c =
    react_refused (PollerStep g.P.Arm.arm_step g.P.EventWait.wait_step) g.P.Arm.interests c.args.given c.args.now c.args.self.now c.begin.new.self c.in-Err.refusal
    c.in-Err.ensures.cause c.in-Err.ensures.refused

pub returns-in-Err-clause-alone : goal.returns-in-Err-clause-alone
returns-in-Err-clause-alone g c none =
    round_alone (PollerStep g.P.Arm.arm_step g.P.EventWait.wait_step) g.P.Arm.interests c.args.given c.args.now _ _ c.args.self.now c.begin.new.self none (returns-in-Err-clause-meets g c)

pub returns-in-Err-handle_all-clause-stopped : goal.returns-in-Err-handle_all-clause-stopped
returns-in-Err-handle_all-clause-stopped g c = λ none running.
    react_stopped (PollerStep g.P.Arm.arm_step g.P.EventWait.wait_step) g.P.Arm.interests c.args.given c.args.now _ c.args.self.now c.begin.new.self c.wait.new.self c.handle_all.new.self
    (not_busy c.args.self.now.1 none) c.in-Ok.ensures.poller c.in-Ok.ensures.begun c.wait.ensures.meets c.in-Err-handle_all.ensures.handles

pub returns-in-Ok-finish-clause-meets : goal.returns-in-Ok-finish-clause-meets
returns-in-Ok-finish-clause-meets g c =
    let phase : wait_phase c.wait.result ≡ None = c.wait.ensures.phase ∙ ap (λ (core : CoreValue). empty_hand_refusal core.round) c.in-Ok.ensures.begun in
    let events : c.match-wait.events ≡ wait_given c.wait.result = elim c.match-wait.branch [
      | in-Ok-Given w ↦ w.events-is ∙ sym (ap wait_given w.in-Ok-Given.is ∙ ap (λ (waited : Waited). wait_given (Ok waited)) w.in-Ok-Given.field-0-is)
      | in-Ok-Interrupted w ↦ w.events-is ∙ sym (ap wait_given w.in-Ok-Interrupted.is ∙ ap (λ (waited : Waited). wait_given (Ok waited)) w.in-Ok-Interrupted.field-0-is)
      | in-Err-wait w ↦ w.events-is ∙ sym (ap wait_given w.in-Err-wait.is)
    ] in
    react_meets (PollerStep g.P.Arm.arm_step g.P.EventWait.wait_step) g.P.Arm.interests c.args.given c.args.now c.in-Ok.begun.0 c.match-wait.events c.in-Ok-finish.fault _ _
    c.args.self.now c.begin.new.self c.wait.new.self c.handle_all.new.self c.finish.new.self
    (not_busy c.args.self.now.1 c.in-Ok.ensures.cause) c.in-Ok.ensures.poller c.in-Ok.ensures.begun
    (c.wait.ensures.runs ∙ ap (λ (core : CoreValue). core.round.running) c.in-Ok.ensures.begun) c.in-Ok-handle_all.ensures.runs c.in-Ok.ensures.number
    (c.wait.ensures.given phase ∙ sym events) (sym c.in-Ok-finish.ensures.fault) c.wait.ensures.part c.in-Ok-handle_all.ensures.part c.in-Ok-finish.ensures.part

pub returns-in-Ok-finish-clause-alone : goal.returns-in-Ok-finish-clause-alone
returns-in-Ok-finish-clause-alone g c none =
    round_alone (PollerStep g.P.Arm.arm_step g.P.EventWait.wait_step) g.P.Arm.interests c.args.given c.args.now (Some _) _ c.args.self.now c.finish.new.self none (returns-in-Ok-finish-clause-meets g c)

pub returns-in-Err-finish-clause-stopped : goal.returns-in-Err-finish-clause-stopped
returns-in-Err-finish-clause-stopped g c = λ none running.
    react_stopped (PollerStep g.P.Arm.arm_step g.P.EventWait.wait_step) g.P.Arm.interests c.args.given c.args.now _ c.args.self.now c.begin.new.self c.wait.new.self c.finish.new.self
    (not_busy c.args.self.now.1 none) c.in-Ok.ensures.poller c.in-Ok.ensures.begun c.wait.ensures.meets
    (subst (λ (last : g.row.P.Denot × CoreValue). Handles (PollerStep g.P.Arm.arm_step g.P.EventWait.wait_step) g.P.Arm.interests c.wait.new.self last) (sym c.in-Err-finish.ensures.refused)
    c.in-Ok-handle_all.ensures.handles)

pub returns-in-Err-finish-clause-wanting : goal.returns-in-Err-finish-clause-wanting
returns-in-Err-finish-clause-wanting g c = λ none running empty.
    let book = c.in-Ok-handle_all.ensures.book ∙ c.wait.ensures.book ∙ ap (λ (core : CoreValue). core.book) c.in-Ok.ensures.begun in
    absurd (c.in-Err-finish.ensures.wanting (open_hand c.handle_all.new.self.1.round c.in-Ok-handle_all.ensures.runs c.in-Ok-handle_all.ensures.hand)
    (ap (due_wakers c.args.now) book ∙ none_due_left c.args.now c.args.self.now.1.book))
