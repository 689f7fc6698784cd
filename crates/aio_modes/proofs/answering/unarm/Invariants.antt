use Rattle.std.proofs.Common.{◌≡◌, drop, filter}
use Rattle.aio_base.specs.Devices.{clear_interests}
use Rattle.aio_script.specs.Interests.{interests_in}
use Rattle.aio_modes.specs.Interests.{has_directions}
use Rattle.aio_modes.proofs.answering.unarm.Given as goal

abbrev pub invariant-loop-event : goal.invariant-loop-event
invariant-loop-event l =
    clear_interests (filter has_directions (drop l.event-index l.events)) (interests_in l.armed) ≡ clear_interests (filter has_directions l.events) (interests_in l.initial.armed)
