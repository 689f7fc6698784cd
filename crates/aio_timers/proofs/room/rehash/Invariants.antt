-- The nodes in use before the index are in their buckets.
use Rattle.std.proofs.Common.{◌≡◌, length}
use Rattle.aio_timers.specs.Held.{held_at}
use Rattle.aio_timers.specs.Chains.{IsTable, ChainsChange}
use Rattle.aio_timers.specs.Growth.{used_before}
use Rattle.aio_timers.proofs.room.rehash.Given as goal

abbrev pub invariant-loop-at : goal.invariant-loop-at
invariant-loop-at l = record {
  change : ChainsChange l.fn.nodes l.nodes;
  table : IsTable (held_at l.nodes) (length l.nodes) l.buckets (used_before l.at (held_at l.fn.nodes));
  row : length l.buckets ≡ length l.fn.buckets;
}
