use Rattle.std.proofs.Common.{◌≡◌, ◌++◌, map, take, drop}
use Rattle.aio_modes.specs.Interests.{cut_event}
use Rattle.aio_script.specs.Interests.{interests_in}
use Rattle.aio_modes.proofs.answering.cut_all.Given as goal

abbrev pub invariant-loop-event : goal.invariant-loop-event
invariant-loop-event l = l.event-items ≡ map (cut_event (interests_in l.armed)) (take l.event-index l.fn.events) ++ drop l.event-index l.fn.events
