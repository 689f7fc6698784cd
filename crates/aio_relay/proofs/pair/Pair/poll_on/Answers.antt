use Rattle.std.proofs.Common.{refl, sym, subst, arith, Err}
use Rattle.aio_pairs.specs.declared.outcomes.PairEnd.{PairEnd}
use Rattle.aio_relay.specs.Pairs.{PairState, may_come_to}
use Rattle.aio_relay.proofs.PollLemmas.{came-before, ended-fits, idle-blocked, reason-fits, done-polls, idle-polls, reason-polls, wait-polls, memory-polls, notify-polls, owned}
use Rattle.aio_relay.proofs.TurnLemmas.{notified-longer}
use Rattle.aio_relay.specs.Waiting.{WaitFailed, Waits, idle_from}
use Rattle.aio_relay.specs.declared.waiting.WaitFault.{WaitFault}
use Rattle.aio_pairs.specs.Calls.{CallsFor, RoseIn}
use Rattle.aio_relay.proofs.pair.Pair.poll_on.Goals as goal
use Rattle.aio_relay.proofs.pair.Pair.poll_on.Goals.{After-wait, In-Err-Notify}
use Rattle.aio_relay.proofs.pair.Pair.poll_on.Given.{Over}

pub returns-in-Err-clause-ready : goal.returns-in-Err-clause-ready
returns-in-Err-clause-ready g c =
    let e = c.in-Err.ensures in
    came-before g.E.End.end_step g.E.Tells.telling g.E.Faults.is_sure g.E.Faults.fault_count
    (CallsFor g.H.TimerHost.rules g.H.Later.is_later g.H.Later.notifier_is_sure c.own_waker-w.result) c.args.host.now c.pass.new.host c.args.self.now c.pass.new.self c.args.cx.now c.args.cx.now _ c.in-Err.end e.passed
    (reason-fits g.E.End.end_step g.E.Tells.telling g.E.Faults.is_sure g.E.Faults.fault_count
    (CallsFor g.H.TimerHost.rules g.H.Later.is_later g.H.Later.notifier_is_sure c.own_waker-w.result) c.args.self.now c.pass.new.self c.args.cx.now _ _ _ c.in-Err.end e.reason)

pub returns-in-Err-clause-step : goal.returns-in-Err-clause-step
returns-in-Err-clause-step g c =
    let e = c.in-Err.ensures in
    reason-polls g.E.End.end_step g.E.Tells.telling g.E.Faults.is_sure g.E.Faults.fault_count g.H.TimerHost.rules g.H.Later.is_later g.H.Later.notifier_is_sure c.args.self.now c.pass.new.self
    c.args.host.now c.pass.new.host c.args.cx c.in-Err.end
    (owned g.E.End.end_step g.E.Tells.telling g.E.Faults.is_sure g.E.Faults.fault_count g.H.TimerHost.rules g.H.Later.is_later g.H.Later.notifier_is_sure c.own_waker-w.result c.args.host.now c.pass.new.host c.args.self.now c.pass.new.self c.args.cx c.own_waker-w.ensures e.passed) e.polls e.timer e.reason

pub returns-then-is_done-clause-ready : goal.returns-then-is_done-clause-ready
returns-then-is_done-clause-ready g c =
    let p = c.pass.new.self in
    came-before g.E.End.end_step g.E.Tells.telling g.E.Faults.is_sure g.E.Faults.fault_count
    (CallsFor g.H.TimerHost.rules g.H.Later.is_later g.H.Later.notifier_is_sure c.own_waker-w.result) c.args.host.now c.pass.new.host c.args.self.now p c.args.cx.now c.args.cx.now _ c.ended.result c.in-Ok.ensures.passed
    (subst (λ (end : PairEnd). may_come_to g.E.Tells.telling g.E.Faults.is_sure p (g.H.Later.notifier_is_sure c.args.host.now) c.args.cx.now end) (sym c.ended.ensures)
    (ended-fits g.E.End.end_step g.E.Tells.telling g.E.Faults.is_sure g.E.Faults.fault_count
    (CallsFor g.H.TimerHost.rules g.H.Later.is_later g.H.Later.notifier_is_sure c.own_waker-w.result) p c.args.cx.now (g.H.Later.notifier_is_sure c.args.host.now) p.from_b.forwarded p.from_a.forwarded c.is_done.ensures.sound (c.is_done.ensures.done c.if-is_done.true) refl refl))

pub returns-then-is_done-clause-step : goal.returns-then-is_done-clause-step
returns-then-is_done-clause-step g c =
    let e = c.in-Ok.ensures in
    done-polls g.E.End.end_step g.E.Tells.telling g.E.Faults.is_sure g.E.Faults.fault_count g.H.TimerHost.rules g.H.Later.is_later g.H.Later.notifier_is_sure refl c.args.self.now c.pass.new.self
    c.args.host.now c.pass.new.host c.args.cx c.ended.result
    (owned g.E.End.end_step g.E.Tells.telling g.E.Faults.is_sure g.E.Faults.fault_count g.H.TimerHost.rules g.H.Later.is_later g.H.Later.notifier_is_sure c.own_waker-w.result c.args.host.now c.pass.new.host c.args.self.now c.pass.new.self c.args.cx c.own_waker-w.ensures e.passed) e.polls e.timer (e.short refl) (c.is_done.ensures.done c.if-is_done.true) c.ended.ensures

pub returns-then-is_idle-clause-ready : goal.returns-then-is_idle-clause-ready
returns-then-is_idle-clause-ready g c =
    let p = c.pass.new.self in
    let e = c.in-Ok.ensures in
    let late = c.is_idle.ensures.idle c.if-is_idle.true in
    let blocked = idle-blocked g.E.End.end_step g.E.Tells.telling g.E.Faults.is_sure g.E.Faults.fault_count
    (CallsFor g.H.TimerHost.rules g.H.Later.is_later g.H.Later.notifier_is_sure c.own_waker-w.result) refl c.args.host.now c.pass.new.host c.args.self.now p c.args.cx.now e.passed
    c.is_done.ensures.sound.idle_some late (c.is_done.ensures.not_yet c.if-is_done.false) in
    came-before g.E.End.end_step g.E.Tells.telling g.E.Faults.is_sure g.E.Faults.fault_count
    (CallsFor g.H.TimerHost.rules g.H.Later.is_later g.H.Later.notifier_is_sure c.own_waker-w.result) c.args.host.now c.pass.new.host c.args.self.now p c.args.cx.now c.args.cx.now _ c.idled.result e.passed
    (subst (λ (end : PairEnd). may_come_to g.E.Tells.telling g.E.Faults.is_sure p (g.H.Later.notifier_is_sure c.args.host.now) c.args.cx.now end) (sym c.idled.ensures)
    (blocked, late, omega arith, omega arith))

pub returns-then-is_idle-clause-step : goal.returns-then-is_idle-clause-step
returns-then-is_idle-clause-step g c =
    let e = c.in-Ok.ensures in
    idle-polls g.E.End.end_step g.E.Tells.telling g.E.Faults.is_sure g.E.Faults.fault_count g.H.TimerHost.rules g.H.Later.is_later g.H.Later.notifier_is_sure refl c.args.self.now c.pass.new.self
    c.args.host.now c.pass.new.host c.args.cx c.idled.result
    (owned g.E.End.end_step g.E.Tells.telling g.E.Faults.is_sure g.E.Faults.fault_count g.H.TimerHost.rules g.H.Later.is_later g.H.Later.notifier_is_sure c.own_waker-w.result c.args.host.now c.pass.new.host c.args.self.now c.pass.new.self c.args.cx c.own_waker-w.ensures e.passed) e.polls e.timer (e.short refl) (c.is_done.ensures.not_yet c.if-is_done.false) (c.is_idle.ensures.idle c.if-is_idle.true) c.idled.ensures

pub returns-in-Ok-wait-clause-pending : goal.returns-in-Ok-wait-clause-pending
returns-in-Ok-wait-clause-pending g c moment end order fits =
    came-before g.E.End.end_step g.E.Tells.telling g.E.Faults.is_sure g.E.Faults.fault_count
    (CallsFor g.H.TimerHost.rules g.H.Later.is_later g.H.Later.notifier_is_sure c.own_waker-w.result) c.args.host.now c.pass.new.host c.args.self.now c.pass.new.self c.args.cx.now moment _ end c.in-Ok.ensures.passed
    (subst (λ (p : PairState g.row.E.Denot). may_come_to g.E.Tells.telling g.E.Faults.is_sure p (g.H.Later.notifier_is_sure c.args.host.now) moment end) c.in-Ok-wait.ensures.rest fits)

pub returns-in-Ok-wait-clause-step : goal.returns-in-Ok-wait-clause-step
returns-in-Ok-wait-clause-step g c =
    let e = c.in-Ok.ensures in
    wait-polls g.E.End.end_step g.E.Tells.telling g.E.Faults.is_sure g.E.Faults.fault_count g.H.TimerHost.rules g.H.Later.is_later g.H.Later.notifier_is_sure refl c.args.self.now c.pass.new.self c.wait.new.self
    c.args.host.now c.pass.new.host c.wait.new.host c.args.cx
    (owned g.E.End.end_step g.E.Tells.telling g.E.Faults.is_sure g.E.Faults.fault_count g.H.TimerHost.rules g.H.Later.is_later g.H.Later.notifier_is_sure c.own_waker-w.result c.args.host.now c.pass.new.host c.args.self.now c.pass.new.self c.args.cx c.own_waker-w.ensures e.passed) e.polls e.timer (e.short refl) c.in-Ok-wait.ensures.rest c.own_waker-w.result c.own_waker-w.ensures
    c.in-Ok.at_once e.block (c.is_done.ensures.not_yet c.if-is_done.false) (c.is_idle.ensures.not_yet c.if-is_idle.false) c.in-Ok-wait.ensures.sets c.in-Ok-wait.ensures.waits

notified : (g : Over) (c : In-Err-Notify g) → RoseIn (g.H.TimerHost.rules.faults c.args.host.now) (g.H.TimerHost.rules.faults c.wait.new.host)
    (g.H.Later.notifier_is_sure c.args.host.now) c.in-Err-Notify.fault
notified g c =
    let e = c.in-Ok.ensures in
    let before = g.H.TimerHost.rules.faults c.pass.new.host in
    let after = g.H.TimerHost.rules.faults c.wait.new.host in
    let sure = g.H.Later.notifier_is_sure c.pass.new.host in
    notified-longer (g.H.TimerHost.rules.faults c.args.host.now) before after (g.H.Later.notifier_is_sure c.args.host.now) sure e.host.faults (g.H.Later.stays_sure _ _ e.host.goes) c.in-Err-Notify.fault
    (subst (λ (f : WaitFault). WaitFailed before after sure f) c.in-Err-Notify.field-0-is c.in-Err-Notify.ensures.sets)

abbrev WaitsWith : (g : Over) (c : After-wait g) → WaitFault → Type 0
WaitsWith g c f = Waits g.H.TimerHost.rules g.H.Later.is_later g.H.Later.notifier_is_sure c.in-Ok.at_once
    (idle_from c.pass.new.self.last c.pass.new.self.idle) c.args.cx.now c.own_waker-w.result c.pass.new.self.timer c.wait.new.self.timer c.pass.new.host c.wait.new.host (Err f)

pub returns-in-Err-Notify-clause-ready : goal.returns-in-Err-Notify-clause-ready
returns-in-Err-Notify-clause-ready g c = (notified g c).0

pub returns-in-Err-Notify-clause-step : goal.returns-in-Err-Notify-clause-step
returns-in-Err-Notify-clause-step g c =
    let e = c.in-Ok.ensures in
    notify-polls g.E.End.end_step g.E.Tells.telling g.E.Faults.is_sure g.E.Faults.fault_count g.H.TimerHost.rules g.H.Later.is_later g.H.Later.notifier_is_sure refl c.args.self.now c.pass.new.self c.wait.new.self
    c.args.host.now c.pass.new.host c.wait.new.host c.args.cx
    (owned g.E.End.end_step g.E.Tells.telling g.E.Faults.is_sure g.E.Faults.fault_count g.H.TimerHost.rules g.H.Later.is_later g.H.Later.notifier_is_sure c.own_waker-w.result c.args.host.now c.pass.new.host c.args.self.now c.pass.new.self c.args.cx c.own_waker-w.ensures e.passed) e.polls e.timer (e.short refl) c.in-Err-Notify.ensures.rest c.own_waker-w.result c.own_waker-w.ensures
    c.in-Ok.at_once c.in-Err-Notify.fault e.block (subst (WaitsWith g (goal.at.returns-in-Err-Notify-clause-step g c).After-wait) c.in-Err-Notify.field-0-is c.in-Err-Notify.ensures.waits) (notified g c)

pub returns-in-Err-OutOfMemory-clause-step : goal.returns-in-Err-OutOfMemory-clause-step
returns-in-Err-OutOfMemory-clause-step g c =
    let e = c.in-Ok.ensures in
    memory-polls g.E.End.end_step g.E.Tells.telling g.E.Faults.is_sure g.E.Faults.fault_count g.H.TimerHost.rules g.H.Later.is_later g.H.Later.notifier_is_sure refl c.args.self.now c.pass.new.self c.wait.new.self
    c.args.host.now c.pass.new.host c.wait.new.host c.args.cx
    (owned g.E.End.end_step g.E.Tells.telling g.E.Faults.is_sure g.E.Faults.fault_count g.H.TimerHost.rules g.H.Later.is_later g.H.Later.notifier_is_sure c.own_waker-w.result c.args.host.now c.pass.new.host c.args.self.now c.pass.new.self c.args.cx c.own_waker-w.ensures e.passed) e.polls e.timer (e.short refl) c.in-Err-OutOfMemory.ensures.rest c.own_waker-w.result c.own_waker-w.ensures
    c.in-Ok.at_once e.block (subst (WaitsWith g (goal.at.returns-in-Err-OutOfMemory-clause-step g c).After-wait) c.in-Err-OutOfMemory.field-0-is c.in-Err-OutOfMemory.ensures.waits)
