-- Of the nodes up to here the last one that is due is known, and fewer are to come.
use Rattle.std.proofs.Common.{ℕ, List, length}
use Rattle.aio_timers.specs.Rows.{steps_from, IsRunOnce}
use Rattle.aio_timers.proofs.DueLemmas.{Sees}
use Rattle.aio_timers.proofs.due.last_due_of.Given as goal

abbrev pub invariant-loop-at : goal.invariant-loop-at
invariant-loop-at l = (ks : List ℕ) → IsRunOnce l.fn.nodes l.fn.first ks → Sees l.fn.nodes l.fn.now ks l.link l.last

abbrev pub decreases-loop-at : goal.decreases-loop-at
decreases-loop-at l = steps_from (length l.fn.nodes) l.fn.nodes l.link
