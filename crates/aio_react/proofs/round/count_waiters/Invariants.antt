use Rattle.std.proofs.Common.{◌≡◌, ◌+◌, drop, length}
use Rattle.aio_base.specs.World.{directions}
use Rattle.aio_source.specs.Rules.{waiters_in}
use Rattle.aio_react.proofs.round.count_waiters.Given as goal

abbrev pub invariant-loop-dir : goal.invariant-loop-dir
invariant-loop-dir l = l.waiting + length (waiters_in (drop l.dir-index l.dir-items) l.s.directions) ≡ length (waiters_in directions l.s.directions)
