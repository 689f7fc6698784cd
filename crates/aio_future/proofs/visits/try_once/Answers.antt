use Rattle.std.proofs.Common.{rules, inr, refl}
use Rattle.aio_future.proofs.visits.try_once.Goals as goal
use Rattle.aio_future.proofs.visits.try_once.Goals.{in-Ready-Err, in-Pending}

pub returns-in-Ready-Ok-clause-tries : goal.returns-in-Ready-Ok-clause-tries
returns-in-Ready-Ok-clause-tries g c = record {
  polled = c.visit-polled.result;
  blocks = record {
    between = record { state = c.args.cell.now.state; io = c.attempt.new.io };
    blocked = record { attempted = search rules; state = refl };
    polls = c.visit-polled.ensures.visits.1;
  };
  ready = search rules;
}

pub returns-clause-tries : goal.returns-clause-tries
returns-clause-tries g c = elim c.match-polled.branch [
  | in-Ready-Err w ↦ inr (record {
    polled = c.visit-polled.result;
    blocks = record {
      between = record { state = c.args.cell.now.state; io = c.attempt.new.io };
      blocked = record { attempted = search rules; state = refl };
      polls = c.visit-polled.ensures.visits.1;
    };
    unready = search rules;
    tried_is = search rules;
  })
  | in-Pending w ↦ inr (record {
    polled = c.visit-polled.result;
    blocks = record {
      between = record { state = c.args.cell.now.state; io = c.attempt.new.io };
      blocked = record { attempted = search rules; state = refl };
      polls = c.visit-polled.ensures.visits.1;
    };
    unready = search rules;
    tried_is = search rules;
  })
]
