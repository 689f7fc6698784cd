use Rattle.std.proofs.Common.{rules}
use Rattle.aio_record.proofs.Ending.{fresh_push}
use Rattle.aio_record.proofs.stressing.new_desks.Goals as goal

pub loop-made-preserved : goal.loop-made-preserved
loop-made-preserved c = record {
  fresh = fresh_push c.loop-made.firsts.items c.loop-made.seconds.items c.in_ok-first.first c.in_ok-first.second _ _ c.loop-made.invariant.fresh c.in_ok-first.ensures
      c.push_reserved.ensures.items c.push_reserved-in-loop-made.ensures.items;
  first = search rules;
  second = search rules;
  bound = search rules;
  room = search rules;
  space = search rules;
}

pub returns-clause-first : goal.returns-clause-first
returns-clause-first c = search rules

pub returns-clause-second : goal.returns-clause-second
returns-clause-second c = search rules
