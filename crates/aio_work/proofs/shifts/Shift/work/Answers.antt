use Rattle.std.proofs.Common.{suc, ◌∙◌}
use Rattle.aio_work.proofs.shifts.Shift.work.Goals as goal

pub loop-preserved : goal.loop-preserved
loop-preserved g c =
    let so_far = c.loop.invariant in record {
      turns = suc so_far.turns;
      works = (
        c.loop.self.workload,
        c.loop.host,
        so_far.works,
        record {
          f = c.in-Some-next.found;
          by = c.next-in-loop.new.self;
          finds = c.in-Some-next.ensures.found;
          polls = c.poll_found.ensures.polled;
        },
      );
      later = g.H.Later.later_than_later c.args.host.now c.loop.host c.poll_found.new.host so_far.later c.poll_found.ensures.host;
      polls = c.poll_found.ensures.polls ∙ so_far.polls;
    }

pub returns-in-None-next-clause-worked : goal.returns-in-None-next-clause-worked
returns-in-None-next-clause-worked g c = record {
  turns = c.loop.invariant.turns;
  last = c.loop.self.workload;
  works = c.loop.invariant.works;
  finds_none = c.in-None-next.ensures.none;
}
