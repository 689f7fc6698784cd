use Rattle.std.proofs.Common.{◌+◌, ◌≤◌, List, ◌++◌}
use Rattle.std.specs.Prelude.{vec_len, vec_capacity}
use Rattle.std.specs.VecDeque.{deque_len}
use Rattle.std.specs.List.{AllZip}
use Rattle.aio_record.specs.Makers.{StressValue}
use Rattle.aio_record.specs.Desks.{IsPair, Joined}
use Rattle.aio_record.proofs.stressing.join_all.Given as goal

abbrev pub invariant-loop-first : goal.invariant-loop-first
invariant-loop-first g l = record {
  pairs : AllZip IsPair l.firsts.items l.seconds.items;
  joined : (more : List StressValue) → Joined l.firsts.items l.seconds.items more → Joined l.fn.firsts.items l.fn.seconds.items (l.cells.items ++ more);
  room : vec_len l.cells + deque_len l.firsts ≤ vec_capacity l.cells;
}

abbrev pub decreases-loop-first : goal.decreases-loop-first
decreases-loop-first g l = deque_len l.firsts
