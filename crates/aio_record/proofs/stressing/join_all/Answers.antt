use Rattle.std.proofs.Common.{rules, sym, ◌∙◌}
use Rattle.std.proofs.lemmas.List.{nil_from_length}
use Rattle.aio_record.proofs.Ending.{joined_end, joined_more, pairs_left}
use Rattle.aio_record.proofs.stressing.join_all.Goals as goal

pub returns : goal.returns
returns g c =
    let l = c.loop-first in
    joined_end l.firsts.items l.seconds.items l.cells.items c.args.firsts.items c.args.seconds.items
    (nil_from_length l.firsts.items (sym l.firsts.ok.0 ∙ c.in_default-pop_front.ensures.cases.0)) l.invariant.pairs l.invariant.joined

pub loop-first-preserved : goal.loop-first-preserved
loop-first-preserved g c =
    let l = c.loop-first in
    let first = c.in-Some.first in
    let second = c.in-Some-pop_front.second in
    let rest = c.pop_front.new.self.items in
    let later = c.pop_front-in-Some.new.self.items in
    let first-is = c.in-Some.ensures.items in
    let second-is = c.in-Some-pop_front.ensures.items in
    record {
      pairs = pairs_left l.firsts.items l.seconds.items rest later first second first-is second-is l.invariant.pairs;
      joined = joined_more l.firsts.items l.seconds.items rest later l.cells.items c.push_reserved.new.self.items c.args.firsts.items c.args.seconds.items first second c.join.result
          first-is second-is c.push_reserved.ensures.items c.join.ensures l.invariant.joined;
      room = search rules;
    }
