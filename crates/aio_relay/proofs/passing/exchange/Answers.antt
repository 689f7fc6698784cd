use Rattle.std.proofs.Common.{◌≡◌, sym, ap, arith, false, Bool, Ok, None, Some}
use Rattle.std.proofs.lemmas.Bool.{true≢false}
use Rattle.aio_pairs.proofs.ExchangeLemmas.{same-on}
use Rattle.aio_pairs.specs.Calls.{CallsFor}
use Rattle.aio_relay.proofs.TurnLemmas.{turns-join, over-so, reason-later}
use Rattle.aio_relay.proofs.passing.exchange.Goals as goal

pub loop-finished-preserved : goal.loop-finished-preserved
loop-finished-preserved g c =
    let i = c.loop-finished in
    let t = c.turn in
    let e = c.in-Ok.ensures in
    let no : c.in-Ok.finished ≡ false = c.if-finished.false in
    let room = e.room (ap (λ (b : Bool). Ok b) no) in
    record {
      passes = turns-join g.E.End.end_step g.E.Tells.telling g.E.Faults.is_sure g.E.Faults.fault_count
          (CallsFor g.H.TimerHost.rules g.H.Later.is_later g.H.Later.notifier_is_sure c.args.w) c.args.host.now i.host t.new.host c.args.a.now c.args.b.now i.a i.b t.new.a t.new.b
          c.args.from_a.now c.args.from_b.now i.from_a i.from_b t.new.from_a t.new.from_b c.args.tally_a.now c.args.tally_b.now i.tally_a i.tally_b t.new.tally_a t.new.tally_b None i.invariant.passes
          (over-so g.E.End.end_step g.E.Tells.telling g.E.Faults.is_sure g.E.Faults.fault_count
          (CallsFor g.H.TimerHost.rules g.H.Later.is_later g.H.Later.notifier_is_sure c.args.w) i.host t.new.host i.a i.b t.new.a t.new.b i.from_a i.from_b t.new.from_a t.new.from_b i.tally_a i.tally_b t.new.tally_a t.new.tally_b None
          (λ never. absurd never) e.passes);
      room_a = room.0;
      room_b = room.1;
      a_same = same-on g.E.End.end_step g.E.Tells.telling g.E.Faults.is_sure g.E.Faults.fault_count c.args.a.now i.a t.new.a i.invariant.a_same e.a_same;
      b_same = same-on g.E.End.end_step g.E.Tells.telling g.E.Faults.is_sure g.E.Faults.fault_count c.args.b.now i.b t.new.b i.invariant.b_same e.b_same;
      host = record {
        goes = g.H.Later.later_than_later _ _ _ i.invariant.host.goes e.host.goes;
        faults = omega (arith, i.invariant.host.faults, e.host.faults);
      };
    }

pub returns-then-finished-clause-passes : goal.returns-then-finished-clause-passes
returns-then-finished-clause-passes g c =
    let i = c.loop-finished in
    let t = c.turn in
    turns-join g.E.End.end_step g.E.Tells.telling g.E.Faults.is_sure g.E.Faults.fault_count
    (CallsFor g.H.TimerHost.rules g.H.Later.is_later g.H.Later.notifier_is_sure c.args.w) c.args.host.now i.host t.new.host c.args.a.now c.args.b.now i.a i.b t.new.a t.new.b
    c.args.from_a.now c.args.from_b.now i.from_a i.from_b t.new.from_a t.new.from_b c.args.tally_a.now c.args.tally_b.now i.tally_a i.tally_b t.new.tally_a t.new.tally_b None i.invariant.passes
    (over-so g.E.End.end_step g.E.Tells.telling g.E.Faults.is_sure g.E.Faults.fault_count
    (CallsFor g.H.TimerHost.rules g.H.Later.is_later g.H.Later.notifier_is_sure c.args.w) i.host t.new.host i.a i.b t.new.a t.new.b i.from_a i.from_b t.new.from_a t.new.from_b i.tally_a i.tally_b t.new.tally_a t.new.tally_b None
    (λ over. ap (λ (b : Bool). Ok b) c.if-finished.true) c.in-Ok.ensures.passes)

pub returns-in-Err-clause-passes : goal.returns-in-Err-clause-passes
returns-in-Err-clause-passes g c =
    let i = c.loop-finished in
    let t = c.turn in
    turns-join g.E.End.end_step g.E.Tells.telling g.E.Faults.is_sure g.E.Faults.fault_count
    (CallsFor g.H.TimerHost.rules g.H.Later.is_later g.H.Later.notifier_is_sure c.args.w) c.args.host.now i.host t.new.host c.args.a.now c.args.b.now i.a i.b t.new.a t.new.b
    c.args.from_a.now c.args.from_b.now i.from_a i.from_b t.new.from_a t.new.from_b c.args.tally_a.now c.args.tally_b.now i.tally_a i.tally_b t.new.tally_a t.new.tally_b (Some c.in-Err.end) i.invariant.passes
    (over-so g.E.End.end_step g.E.Tells.telling g.E.Faults.is_sure g.E.Faults.fault_count
    (CallsFor g.H.TimerHost.rules g.H.Later.is_later g.H.Later.notifier_is_sure c.args.w) i.host t.new.host i.a i.b t.new.a t.new.b i.from_a i.from_b t.new.from_a t.new.from_b i.tally_a i.tally_b t.new.tally_a t.new.tally_b
    (Some c.in-Err.end) (λ ok. absurd (true≢false (sym ok))) c.in-Err.ensures.passes)

pub returns-in-Err-clause-reason : goal.returns-in-Err-clause-reason
returns-in-Err-clause-reason g c =
    let i = c.loop-finished in
    let t = c.turn in
    reason-later g.E.Faults.is_sure g.E.Faults.fault_count c.args.a.now i.a t.new.a c.args.b.now i.b t.new.b t.new.from_a t.new.from_b
    (g.H.TimerHost.rules.faults c.args.host.now) (g.H.TimerHost.rules.faults i.host) (g.H.TimerHost.rules.faults t.new.host)
    (g.H.Later.notifier_is_sure c.args.host.now) (g.H.Later.notifier_is_sure i.host) c.in-Err.end
    i.invariant.a_same.no_fewer i.invariant.b_same.no_fewer i.invariant.host.faults (g.H.Later.stays_sure _ _ i.invariant.host.goes) c.in-Err.ensures.reason

pub returns-then-finished-clause-host : goal.returns-then-finished-clause-host
returns-then-finished-clause-host g c =
    let before = c.loop-finished.invariant.host in
    let later = c.in-Ok.ensures.host in
    record { goes = g.H.Later.later_than_later _ _ _ before.goes later.goes; faults = omega (arith, before.faults, later.faults) }

pub returns-in-Err-clause-host : goal.returns-in-Err-clause-host
returns-in-Err-clause-host g c =
    let before = c.loop-finished.invariant.host in
    let later = c.in-Err.ensures.host in
    record { goes = g.H.Later.later_than_later _ _ _ before.goes later.goes; faults = omega (arith, before.faults, later.faults) }
