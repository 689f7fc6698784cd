use Rattle.std.proofs.Common.{◌≡◌, drop}
use Rattle.aio_base.specs.World.{directions}
use Rattle.aio_source.proofs.WaiterLemmas.{any_waits}
use Rattle.aio_source.proofs.directions.Directions.has_waiter.Given as goal

-- whether a direction has a waiter is whether one that is left has
abbrev pub invariant-loop-direction : goal.invariant-loop-direction
invariant-loop-direction l = any_waits l.self (drop l.direction-index l.direction-items) ≡ any_waits l.self directions
