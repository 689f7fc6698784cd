use Rattle.std.proofs.Common.{rules}
use Rattle.aio_future.proofs.Works.{polling-never, Worked-nothing}
use Rattle.aio_future.proofs.timer.Timer.poll.Goals as goal

pub returns-in_default-clause-worked : goal.returns-in_default-clause-worked
returns-in_default-clause-worked g c =
    rw (polling-never c.args.self.now c.args.now c.args.waker (search rules))
    (Worked-nothing _ _ _ c.args.host.now c.args.self.now (g.H.Later.later_than_itself _))

pub wait-requires : goal.wait-requires
wait-requires g c = search rules

pub returns-in-Ok-wait-clause-answer : goal.returns-in-Ok-wait-clause-answer
returns-in-Ok-wait-clause-answer g c = search rules
