-- There are as many nodes as the index says.
use Rattle.std.proofs.Common.{◌≡◌, ◌≤◌, length, vec_capacity, vec_len}
use Rattle.aio_timers.specs.Columns.{nodes_of}
use Rattle.aio_timers.specs.Growth.{Extends}
use Rattle.aio_timers.proofs.nodes.fill_up.Given as goal

abbrev pub invariant-loop-at : goal.invariant-loop-at
invariant-loop-at l = record {
  extends : Extends (nodes_of l.fn.entries.items l.fn.rows.items) (nodes_of l.entries.items l.rows.items) l.fn.free l.first;
  len : length l.entries.items ≡ l.at;
  columns : length l.rows.items ≡ l.at;
  entries_len : vec_len l.entries ≡ l.at;
  rows_len : vec_len l.rows ≡ l.at;
  entries_room : l.fn.total ≤ vec_capacity l.entries;
  rows_room : l.fn.total ≤ vec_capacity l.rows;
}
