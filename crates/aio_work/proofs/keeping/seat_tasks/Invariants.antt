use Rattle.std.proofs.Common.{◌≡◌, ℕ, List, [], ◌∷◌, ◌++◌}
use Rattle.std.specs.List.{AllZip}
use Rattle.std.specs.VecDeque.{deque_len}
use Rattle.aio_work.proofs.keeping.seat_tasks.Given as goal

-- what is kept of the tasks that are left goes behind what is kept so far
abbrev pub invariant-loop-task : goal.invariant-loop-task
invariant-loop-task g l = (more : List (List ℕ)) → AllZip (λ task (kept : List ℕ). kept ≡ g.K.Work.about_of task ∷ []) l.left.items more
    → AllZip (λ task (kept : List ℕ). kept ≡ g.K.Work.about_of task ∷ []) l.fn.tasks.items (l.kept.items ++ more)

abbrev pub decreases-loop-task : goal.decreases-loop-task
decreases-loop-task g l = deque_len l.left
