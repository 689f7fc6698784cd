use Rattle.std.proofs.Common.{◌+◌, ◌≤◌, ◌++◌}
use Rattle.std.specs.Prelude.{vec_len, vec_capacity}
use Rattle.std.specs.VecDeque.{deque_len}
use Rattle.std.specs.List.{AllZip}
use Rattle.aio_base.proofs.running.on_the_caller.Given as goal

-- ends that may come of the jobs that are left go behind those that came: together they may come of all
abbrev pub invariant-loop-next : goal.invariant-loop-next
invariant-loop-next g l = record {
  rest : (later : _) → AllZip g.J.Job.may_end l.left.items later → AllZip g.J.Job.may_end l.fn.jobs.items (l.ends.items ++ later);
  room : vec_len l.ends + deque_len l.left ≤ vec_capacity l.ends;
}

abbrev pub decreases-loop-next : goal.decreases-loop-next
decreases-loop-next g l = deque_len l.left
