use Rattle.std.proofs.Common.{◌≡◌, ◌++◌, ◌+◌, ◌≤◌, length}
use Rattle.std.specs.Prelude.{vec_len, vec_capacity}
use Rattle.std.specs.VecDeque.{deque_len}
use Rattle.aio_work.specs.Workloads.{queued_slots, with_places}
use Rattle.aio_work.proofs.workload.Workload.begin.Given as goal

-- the places that are left come behind those so far
abbrev pub invariant-loop-place : goal.invariant-loop-place
invariant-loop-place l = record {
  own : with_places l.left.items l.own ≡ with_places l.fn.places.items l.initial.own;
  slots : l.slots.items ++ queued_slots l.left.items ≡ queued_slots l.fn.places.items;
  few : vec_len l.slots + deque_len l.left ≤ 64;
  pushes : length l.own.pushed ≡ vec_len l.slots;
  room : 64 ≤ vec_capacity l.slots;
}

abbrev pub decreases-loop-place : goal.decreases-loop-place
decreases-loop-place l = deque_len l.left
