use Rattle.std.proofs.Common.{◌≡◌, ◌≤◌, length, vec_capacity}
use Rattle.std.specs.List.{AllByRecursion}
use Rattle.aio_work.specs.Starting.{IsUnused}
use Rattle.aio_work.proofs.starting.own_deques.Given as goal

abbrev pub invariant-loop-made : goal.invariant-loop-made
invariant-loop-made l = record {
  count : length l.owns.items ≡ l._made;
  unused : AllByRecursion IsUnused l.owns.items;
  room : l.count ≤ vec_capacity l.owns;
}
