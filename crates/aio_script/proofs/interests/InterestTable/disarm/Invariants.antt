use Rattle.std.proofs.Common.{◌≡◌, drop}
use Rattle.aio_script.specs.Interests.{cleared}
use Rattle.aio_script.proofs.interests.InterestTable.disarm.Given as goal

abbrev pub invariant-loop-event : goal.invariant-loop-event
invariant-loop-event l = cleared (drop l.event-index l.events) l.self ≡ cleared l.events l.initial.self
