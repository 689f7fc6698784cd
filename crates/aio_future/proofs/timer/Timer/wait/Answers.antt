use Rattle.std.proofs.Common.{rules}
use Rattle.aio_future.proofs.Works.{waiting-kept, Worked-nothing}
use Rattle.aio_future.proofs.timer.Timer.wait.Goals as goal

pub returns-then-waits_with : goal.returns-then-waits_with
returns-then-waits_with g c =
    rw (waiting-kept c.args.self.now c.args.deadline c.args.waker (search rules))
    (Worked-nothing _ _ _ c.args.host.now c.args.self.now (g.H.Later.later_than_itself _))
