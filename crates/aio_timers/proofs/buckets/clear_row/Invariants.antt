-- No bucket leads to a node.
use Rattle.std.proofs.Common.{◌≡◌, ◌≤◌, length, vec_capacity, vec_len}
use Rattle.aio_timers.specs.Growth.{IsBlankRow}
use Rattle.aio_timers.proofs.buckets.clear_row.Given as goal

abbrev pub invariant-loop : goal.invariant-loop
invariant-loop l = record {
  blank : IsBlankRow l.heads.items;
  len : length l.heads.items ≡ l.counter;
  room : l.fn.total ≤ vec_capacity l.heads;
  vec : vec_len l.heads ≡ l.counter;
}
