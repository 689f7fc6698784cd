use Rattle.std.proofs.Common.{◌≡◌, drop}
use Rattle.aio_script.specs.Interests.{interests_in}
use Rattle.aio_modes.specs.Raw.{lessened}
use Rattle.aio_modes.proofs.owed.lessen.Given as goal

abbrev pub invariant-loop-event : goal.invariant-loop-event
invariant-loop-event l = lessened (drop l.event-index l.events) (interests_in l.edges) ≡ lessened l.events (interests_in l.initial.edges)
