use Rattle.std.proofs.Common.{◌≡◌, ◌∙◌, refl, true, sym, ap, subst, arith, IsOk, Bool, Option}
use Rattle.std.specs.Prelude.{◌||◌, max, nat_lt, if◌then◌else◌}
use Rattle.std.proofs.lemmas.Bool.{true≢false}
use Rattle.aio_pairs.specs.Calls.{CallsFor}
use Rattle.aio_pairs.specs.Exchanges.{stop_in}
use Rattle.aio_pairs.specs.declared.outcomes.PairEnd.{PairEnd}
use Rattle.aio_relay.specs.Pairs.{PairState, Passed}
use Rattle.aio_relay.proofs.PollLemmas.{block-is, exchange-starts, last-is}
use Rattle.aio_relay.proofs.pair.Pair.pass.Goals as goal
use Rattle.aio_relay.proofs.pair.Pair.pass.Goals.{in-Ok, in-Err}

pub invariant_of-self : goal.invariant_of-self
invariant_of-self g c =
    let p = c.self.inside in
    let i = c.self.invariant in
    let start = exchange-starts g.E.End.end_step g.E.Tells.telling g.E.Faults.is_sure g.E.Faults.fault_count
    (CallsFor g.H.TimerHost.rules g.H.Later.is_later g.H.Later.notifier_is_sure c.args.w) c.args.host.now p.a p.b p.from_a p.from_b _ _ i.side_a i.side_b c.new-tally_a.ensures c.new-tally_b.ensures in
    let x = (c.exchange-passed.ensures.passes c.args.host.now p.a p.b p.from_a p.from_b true true start).exchange in
    record {
      idle_some = i.idle_some;
      idle_bound = i.idle_bound;
      side_a = record { small = omega (arith, x.forth.forwarded); at_end = x.forth.at_end };
      side_b = record { small = omega (arith, x.back.forwarded); at_end = x.back.at_end };
    }

pub returns-clause-passed : goal.returns-clause-passed
returns-clause-passed g c =
    let p = c.self.inside in
    let i = c.self.invariant in
    let start = exchange-starts g.E.End.end_step g.E.Tells.telling g.E.Faults.is_sure g.E.Faults.fault_count
    (CallsFor g.H.TimerHost.rules g.H.Later.is_later g.H.Later.notifier_is_sure c.args.w) c.args.host.now p.a p.b p.from_a p.from_b _ _ i.side_a i.side_b c.new-tally_a.ensures c.new-tally_b.ensures in
    let e = c.exchange-passed.ensures.passes c.args.host.now p.a p.b p.from_a p.from_b true true start in
    let x = e.exchange in
    let n = c.exchange-passed.new in
    let old : PairState g.row.E.Denot = record { a = p.a; b = p.b; from_a = p.from_a; from_b = p.from_b; idle = p.idle; last = p.last; timer = p.timer; polls = p.polls; has_more = p.has_more } in
    let new : PairState g.row.E.Denot =
    record { a = n.a; b = n.b; from_a = n.from_a; from_b = n.from_b; idle = p.idle; last = c.last_after-self-inside.result; timer = p.timer; polls = c.saturating_add-self-inside.result; has_more = c.has_block-self-inside.result } in
    let over : IsOk c.match-passed.result → IsOk c.exchange-passed.result = λ ok. elim c.match-passed.branch [
      | in-Ok w ↦ subst IsOk (sym w.in-Ok.is) refl
      | in-Err w ↦ absurd (true≢false (sym (subst IsOk w.result-is ok)))
    ] in
    let same : stop_in c.exchange-passed.result ≡ stop_in c.match-passed.result = elim c.match-passed.branch [
      | in-Ok w ↦ ap stop_in w.in-Ok.is ∙ sym (ap stop_in w.result-is)
      | in-Err w ↦ ap stop_in w.in-Err.is ∙ sym (ap stop_in w.result-is)
    ] in
    let made : Passed g.E.End.end_step g.E.Tells.telling g.E.Faults.is_sure g.E.Faults.fault_count
    (CallsFor g.H.TimerHost.rules g.H.Later.is_later g.H.Later.notifier_is_sure c.args.w) c.args.host.now n.host old new c.args.now (IsOk c.match-passed.result) (stop_in c.exchange-passed.result) = record {
      tally_a = n.tally_a;
      tally_b = n.tally_b;
      exchanged = record { more_a = e.more_a; more_b = e.more_b; exchange = x; is_over = λ ok. e.is_over (over ok) };
      most_of_a = omega (arith, x.forth.tally_read, c.exchange-passed.ensures.most_of_a);
      most_of_b = omega (arith, x.back.tally_read, c.exchange-passed.ensures.most_of_b);
      last = c.last_after-self-inside.ensures
          ∙ ap (λ (m : Bool). if m || c.has_moved-moved_b.result then max p.last c.args.now else p.last) c.has_moved-moved_a.ensures
          ∙ ap (λ (m : Bool). if (n.tally_a.wrote || nat_lt 0 n.tally_a.read) || m then max p.last c.args.now else p.last) c.has_moved-moved_b.ensures
          ∙ last-is g.E.Tells.telling p.a p.b n.a n.b x.a_calls x.b_calls p.from_a p.from_b n.from_a n.from_b n.tally_a n.tally_b e.more_a e.more_b p.last c.args.now x.forth x.back;
      idle = refl;
      has_more = c.has_block-self-inside.ensures ∙ block-is n.tally_a n.tally_b x.a_calls x.b_calls x.forth.tally_read x.back.tally_read;
    } in
    subst (λ (o : PairState g.row.E.Denot). Passed g.E.End.end_step g.E.Tells.telling g.E.Faults.is_sure g.E.Faults.fault_count
    (CallsFor g.H.TimerHost.rules g.H.Later.is_later g.H.Later.notifier_is_sure c.args.w) c.args.host.now n.host o new c.args.now (IsOk c.match-passed.result) (stop_in c.match-passed.result)) c.self.view_is
    (subst (λ (f : Option PairEnd). Passed g.E.End.end_step g.E.Tells.telling g.E.Faults.is_sure g.E.Faults.fault_count
    (CallsFor g.H.TimerHost.rules g.H.Later.is_later g.H.Later.notifier_is_sure c.args.w) c.args.host.now n.host old new c.args.now (IsOk c.match-passed.result) f) same made)
