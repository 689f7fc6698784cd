use Rattle.std.proofs.Common.{◌≡◌, ◌+◌, ◌++◌, ◌≤◌, map, vec_len, vec_capacity}
use Rattle.std.specs.VecDeque.{deque_len}
use Rattle.aio_work.proofs.starting.at_desks.Given as goal

-- what is left comes behind what has its desks
abbrev pub invariant-loop-workload : goal.invariant-loop-workload
invariant-loop-workload g l = record {
  all : map (λ s. s.workload) l.shifts.items ++ l.left.items ≡ l.fn.workloads.items;
  room : vec_len l.shifts + deque_len l.left ≤ vec_capacity l.shifts;
}

abbrev pub decreases-loop-workload : goal.decreases-loop-workload
decreases-loop-workload g l = deque_len l.left
