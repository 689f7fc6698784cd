use Rattle.std.proofs.Common.{◌∙◌, ◌<◌, ℕ, List, refl, sym, ap, subst, arith, length, true, false, Bool, Ok, None}
use Rattle.std.proofs.lemmas.Bool.{true≢false}
use Rattle.aio_pairs.specs.Exchanges.{GoesOn, IsLongHere, OneFailed, stop_in, tries_again}
use Rattle.aio_pairs.specs.Calls.{CallsFor, RoseIn}
use Rattle.aio_pairs.specs.Lines.{longest_line}
use Rattle.aio_pairs.proofs.ExchangeLemmas.{rests-go-on, same-on}
use Rattle.aio_relay.proofs.TurnLemmas.{answer-reason, failed-longer, notified-longer, steps-join}
use Rattle.aio_relay.proofs.passing.step.Goals as goal

pub returns-then-has_long_line-clause-passes : goal.returns-then-has_long_line-clause-passes
returns-then-has_long_line-clause-passes g c =
    rests-go-on g.E.End.end_step g.E.Tells.telling g.E.Faults.is_sure g.E.Faults.fault_count
    (CallsFor g.H.TimerHost.rules g.H.Later.is_later g.H.Later.notifier_is_sure c.args.w) c.args.host.now c.args.from.now c.args.to.now c.args.side.now c.args.tally.now true _ (λ over. absurd (true≢false over)) refl refl

pub returns-then-has_lines-clause-reason : goal.returns-then-has_lines-clause-reason
returns-then-has_lines-clause-reason g c =
    answer-reason c.write_lines.result (IsLongHere c.args.here c.write_lines.new.side) _ _ _ _ (λ f is. is) (λ f is. is) c.write_lines.ensures.reason

pub returns-then-has_lines-clause-short : goal.returns-then-has_lines-clause-short
returns-then-has_lines-clause-short g c ok =
    subst (λ (l : List ℕ). length l < longest_line) (sym c.write_lines.ensures.rest) (c.has_long_line.ensures.short c.if-has_long_line.false)

pub returns-then-ended-clause-passes : goal.returns-then-ended-clause-passes
returns-then-ended-clause-passes g c =
    rests-go-on g.E.End.end_step g.E.Tells.telling g.E.Faults.is_sure g.E.Faults.fault_count
    (CallsFor g.H.TimerHost.rules g.H.Later.is_later g.H.Later.notifier_is_sure c.args.w) c.args.host.now c.args.from.now c.args.to.now c.args.side.now c.args.tally.now false None
    (λ over. (c.has_lines.ensures.none c.if-has_lines.false, sym c.ended.ensures ∙ c.if-ended.true)) refl refl

pub returns-then-more-clause-passes : goal.returns-then-more-clause-passes
returns-then-more-clause-passes g c =
    let x = c.read_more in
    let y = c.write_if_any in
    steps-join g.E.End.end_step g.E.Tells.telling g.E.Faults.is_sure g.E.Faults.fault_count
    (CallsFor g.H.TimerHost.rules g.H.Later.is_later g.H.Later.notifier_is_sure c.args.w) c.args.host.now x.new.host y.new.host c.args.from.now c.args.to.now x.new.from x.new.to y.new.from y.new.to
    c.args.side.now x.new.side y.new.side c.args.tally.now x.new.tally y.new.tally c.in-Ok.more (tries_again y.result) (stop_in y.result) c.in-Ok.ensures.passes y.ensures.passes

pub returns-then-more-clause-reason : goal.returns-then-more-clause-reason
returns-then-more-clause-reason g c =
    let x = c.read_more in
    let y = c.write_if_any in
    let e = c.in-Ok.ensures in
    answer-reason y.result (IsLongHere c.args.here y.new.side)
    (OneFailed g.E.Faults.is_sure g.E.Faults.fault_count x.new.from y.new.from x.new.to y.new.to) (OneFailed g.E.Faults.is_sure g.E.Faults.fault_count c.args.from.now y.new.from c.args.to.now y.new.to)
    (RoseIn (g.H.TimerHost.rules.faults x.new.host) (g.H.TimerHost.rules.faults y.new.host) (g.H.Later.notifier_is_sure x.new.host))
    (RoseIn (g.H.TimerHost.rules.faults c.args.host.now) (g.H.TimerHost.rules.faults y.new.host) (g.H.Later.notifier_is_sure c.args.host.now))
    (failed-longer g.E.Faults.is_sure g.E.Faults.fault_count c.args.from.now x.new.from y.new.from c.args.to.now x.new.to y.new.to e.from_same.no_fewer e.to_same.no_fewer)
    (notified-longer (g.H.TimerHost.rules.faults c.args.host.now) (g.H.TimerHost.rules.faults x.new.host) (g.H.TimerHost.rules.faults y.new.host)
    (g.H.Later.notifier_is_sure c.args.host.now) (g.H.Later.notifier_is_sure x.new.host) e.host.faults (g.H.Later.stays_sure _ _ e.host.goes))
    y.ensures.reason

pub returns-then-more-clause-short : goal.returns-then-more-clause-short
returns-then-more-clause-short g c ok = subst (λ (l : List ℕ). length l < longest_line) (sym c.write_if_any.ensures.rest) (c.in-Ok.ensures.short refl)

pub returns-then-more-clause-less : goal.returns-then-more-clause-less
returns-then-more-clause-less g c ok = omega (arith, c.write_if_any.ensures.most, c.in-Ok.ensures.less (ap (λ (b : Bool). Ok b) c.if-more.true))

pub returns-then-more-clause-from_same : goal.returns-then-more-clause-from_same
returns-then-more-clause-from_same g c =
    same-on g.E.End.end_step g.E.Tells.telling g.E.Faults.is_sure g.E.Faults.fault_count c.args.from.now c.read_more.new.from c.write_if_any.new.from c.in-Ok.ensures.from_same c.write_if_any.ensures.from_same

pub returns-then-more-clause-to_same : goal.returns-then-more-clause-to_same
returns-then-more-clause-to_same g c =
    same-on g.E.End.end_step g.E.Tells.telling g.E.Faults.is_sure g.E.Faults.fault_count c.args.to.now c.read_more.new.to c.write_if_any.new.to c.in-Ok.ensures.to_same c.write_if_any.ensures.to_same

pub returns-clause-passes : goal.returns-clause-passes
returns-clause-passes g c =
    let x = c.read_more in
    subst (λ (m : Bool). GoesOn g.E.End.end_step g.E.Tells.telling g.E.Faults.is_sure g.E.Faults.fault_count
    (CallsFor g.H.TimerHost.rules g.H.Later.is_later g.H.Later.notifier_is_sure c.args.w) c.args.host.now x.new.host c.args.from.now c.args.to.now x.new.from x.new.to
    c.args.side.now x.new.side c.args.tally.now x.new.tally m None) c.if-more.false c.in-Ok.ensures.passes

pub returns-then-more-clause-host : goal.returns-then-more-clause-host
returns-then-more-clause-host g c =
    let before = c.in-Ok.ensures.host in
    let later = c.write_if_any.ensures.host in
    record { goes = g.H.Later.later_than_later _ _ _ before.goes later.goes; faults = omega (arith, before.faults, later.faults) }
