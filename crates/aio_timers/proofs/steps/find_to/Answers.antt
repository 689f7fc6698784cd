-- A later id has no registration.
use Rattle.aio_timers.specs.Held.{helds}
use Rattle.aio_timers.specs.Sound.{registrations}
use Rattle.aio_timers.proofs.LastLemmas.{none-past}
use Rattle.aio_timers.proofs.steps.find_to.Goals as goal

pub returns-then-last-id : goal.returns-then-last-id
returns-then-last-id c = λ root free used s all. none-past c.args.last c.args.deadline c.args.id.0 (registrations (helds c.args.nodes.now)) c.if-last-id.true all

pub returns : goal.returns
returns c = λ root free used s all. c.find.ensures root free used s
