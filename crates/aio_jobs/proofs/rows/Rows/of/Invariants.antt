use Rattle.std.proofs.Common.{◌≡◌, ◌++◌, map}
use Rattle.std.specs.VecDeque.{deque_len}
use Rattle.aio_jobs.proofs.rows.Rows.of.Given as goal

-- what is left goes behind the rows so far
abbrev pub invariant-loop-row : goal.invariant-loop-row
invariant-loop-row g l = map (λ row. row.items) l.fn.rows.items ≡ l.made ++ map (λ row. row.items) l.left.items

abbrev pub decreases-loop-row : goal.decreases-loop-row
decreases-loop-row g l = deque_len l.left
