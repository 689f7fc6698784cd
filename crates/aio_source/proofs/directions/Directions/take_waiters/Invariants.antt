use Rattle.std.proofs.Common.{◌≡◌, false, true, drop, vec_capacity}
use Rattle.aio_base.specs.declared.names.Dir.{Dir}
use Rattle.aio_source.specs.Rules.{direction_of, is_idle}
use Rattle.aio_source.proofs.Taking.{Taking}
use Rattle.aio_source.proofs.directions.Directions.take_waiters.Given as goal

abbrev pub invariant-loop-dir : goal.invariant-loop-dir
invariant-loop-dir l = record {
  left : Taking l.on l.round (drop l.dir-index l.dir-items) l.initial.self l.self l.initial.taken.items l.taken.items (vec_capacity l.taken);
  capacity : vec_capacity l.taken ≡ vec_capacity l.initial.taken;
  nobody : l.may ≡ false → (dir : Dir) → is_idle (direction_of l.self dir) ≡ true;
}
