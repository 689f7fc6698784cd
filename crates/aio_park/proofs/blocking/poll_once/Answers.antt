use Rattle.std.proofs.Common.{refl, arith}
use Rattle.aio_park.proofs.blocking.poll_once.Goals as goal

pub returns-clause-polled : goal.returns-clause-polled
returns-clause-polled g c = record {
  polls = record {
    cx = record { parker = c.args.parker; mask = c.args.mask; now = c.now-now.result };
    told = record { parker_is = refl; within = c.now-now.ensures.within; earliest = c.now-now.ensures.later; latest = c.now-now.ensures.latest };
    mask_is = refl;
    polled = c.poll.ensures.step;
  };
  most = omega (arith, c.get-bound.ensures.value, c.get-bound.ensures.bound);
  ready = c.poll.ensures.ready;
  pending = c.poll.ensures.pending;
}
