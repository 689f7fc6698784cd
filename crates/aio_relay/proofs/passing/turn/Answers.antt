use Rattle.std.proofs.Common.{refl, sym, ap, subst, arith, true, Bool, Result, None, Some}
use Rattle.std.specs.Prelude.{IsOk}
use Rattle.std.proofs.lemmas.Bool.{true≢false}
use Rattle.aio_pairs.specs.Exchanges.{tries_again}
use Rattle.aio_pairs.specs.declared.outcomes.PairEnd.{PairEnd}
use Rattle.aio_pairs.proofs.ExchangeLemmas.{same-on}
use Rattle.aio_pairs.specs.Calls.{CallsFor}
use Rattle.aio_relay.proofs.TurnLemmas.{one-step, both-steps, reason-forth, reason-back}
use Rattle.aio_relay.proofs.passing.turn.Goals as goal

pub returns-in-Err-clause-passes : goal.returns-in-Err-clause-passes
returns-in-Err-clause-passes g c =
    let x = c.step in
    one-step g.E.End.end_step g.E.Tells.telling g.E.Faults.is_sure g.E.Faults.fault_count
    (CallsFor g.H.TimerHost.rules g.H.Later.is_later g.H.Later.notifier_is_sure c.args.w) c.args.host.now x.new.host c.args.a.now c.args.b.now x.new.from x.new.to
    c.args.from_a.now c.args.from_b.now x.new.side c.args.tally_a.now c.args.tally_b.now x.new.tally true (Some c.in-Err.end) c.in-Err.ensures.passes
    (λ over. true≢false (sym (subst (λ (r : Result Bool PairEnd). IsOk r) (sym over) refl)))

pub returns-in-Err-step-clause-passes : goal.returns-in-Err-step-clause-passes
returns-in-Err-step-clause-passes g c =
    let x = c.step in
    let y = c.step-2 in
    both-steps g.E.End.end_step g.E.Tells.telling g.E.Faults.is_sure g.E.Faults.fault_count
    (CallsFor g.H.TimerHost.rules g.H.Later.is_later g.H.Later.notifier_is_sure c.args.w) c.args.host.now x.new.host y.new.host c.args.a.now c.args.b.now x.new.from x.new.to y.new.to y.new.from
    c.args.from_a.now c.args.from_b.now x.new.side y.new.side c.args.tally_a.now c.args.tally_b.now x.new.tally y.new.tally c.in-Ok.more true (Some c.in-Err-step.end)
    c.in-Ok.ensures.passes c.in-Err-step.ensures.passes (λ over. absurd (true≢false (sym (subst (λ (r : Result Bool PairEnd). IsOk r) (sym over) refl))))

pub returns-clause-passes : goal.returns-clause-passes
returns-clause-passes g c =
    let x = c.step in
    let y = c.step-2 in
    both-steps g.E.End.end_step g.E.Tells.telling g.E.Faults.is_sure g.E.Faults.fault_count
    (CallsFor g.H.TimerHost.rules g.H.Later.is_later g.H.Later.notifier_is_sure c.args.w) c.args.host.now x.new.host y.new.host c.args.a.now c.args.b.now x.new.from x.new.to y.new.to y.new.from
    c.args.from_a.now c.args.from_b.now x.new.side y.new.side c.args.tally_a.now c.args.tally_b.now x.new.tally y.new.tally c.in-Ok.more c.in-Ok-step.more None
    c.in-Ok.ensures.passes c.in-Ok-step.ensures.passes (λ over. c.is_finished.ensures.over (ap (λ (r : Result Bool PairEnd). tries_again r) over))

pub returns-in-Err-clause-reason : goal.returns-in-Err-clause-reason
returns-in-Err-clause-reason g c =
    reason-forth g.E.Faults.is_sure g.E.Faults.fault_count c.args.a.now c.step.new.from c.args.b.now c.step.new.to c.step.new.side c.args.from_b.now _ c.in-Err.end c.in-Err.ensures.reason

pub returns-in-Err-step-clause-reason : goal.returns-in-Err-step-clause-reason
returns-in-Err-step-clause-reason g c =
    let x = c.step in
    let y = c.step-2 in
    let e = c.in-Ok.ensures in
    reason-back g.E.Faults.is_sure g.E.Faults.fault_count c.args.a.now x.new.from y.new.to c.args.b.now x.new.to y.new.from x.new.side y.new.side
    (g.H.TimerHost.rules.faults c.args.host.now) (g.H.TimerHost.rules.faults x.new.host) (g.H.TimerHost.rules.faults y.new.host)
    (g.H.Later.notifier_is_sure c.args.host.now) (g.H.Later.notifier_is_sure x.new.host) c.in-Err-step.end
    e.from_same.no_fewer e.to_same.no_fewer e.host.faults (g.H.Later.stays_sure _ _ e.host.goes) c.in-Err-step.ensures.reason

pub returns-clause-a_same : goal.returns-clause-a_same
returns-clause-a_same g c =
    same-on g.E.End.end_step g.E.Tells.telling g.E.Faults.is_sure g.E.Faults.fault_count c.args.a.now c.step.new.from c.step-2.new.to c.in-Ok.ensures.from_same c.in-Ok-step.ensures.to_same

pub returns-clause-b_same : goal.returns-clause-b_same
returns-clause-b_same g c =
    same-on g.E.End.end_step g.E.Tells.telling g.E.Faults.is_sure g.E.Faults.fault_count c.args.b.now c.step.new.to c.step-2.new.from c.in-Ok.ensures.to_same c.in-Ok-step.ensures.from_same

pub returns-in-Err-step-clause-a_same : goal.returns-in-Err-step-clause-a_same
returns-in-Err-step-clause-a_same g c =
    same-on g.E.End.end_step g.E.Tells.telling g.E.Faults.is_sure g.E.Faults.fault_count c.args.a.now c.step.new.from c.step-2.new.to c.in-Ok.ensures.from_same c.in-Err-step.ensures.to_same

pub returns-in-Err-step-clause-b_same : goal.returns-in-Err-step-clause-b_same
returns-in-Err-step-clause-b_same g c =
    same-on g.E.End.end_step g.E.Tells.telling g.E.Faults.is_sure g.E.Faults.fault_count c.args.b.now c.step.new.to c.step-2.new.from c.in-Ok.ensures.to_same c.in-Err-step.ensures.from_same

pub returns-in-Err-step-clause-host : goal.returns-in-Err-step-clause-host
returns-in-Err-step-clause-host g c =
    let before = c.in-Ok.ensures.host in
    let later = c.in-Err-step.ensures.host in
    record { goes = g.H.Later.later_than_later _ _ _ before.goes later.goes; faults = omega (arith, before.faults, later.faults) }

pub returns-clause-host : goal.returns-clause-host
returns-clause-host g c =
    let before = c.in-Ok.ensures.host in
    let later = c.in-Ok-step.ensures.host in
    record { goes = g.H.Later.later_than_later _ _ _ before.goes later.goes; faults = omega (arith, before.faults, later.faults) }
