-- The first pass keeps what it has done so far, and the row that is left grows shorter.
use Rattle.std.proofs.Common.{ℕ, List, length}
use Rattle.aio_timers.specs.Rows.{steps_from}
use Rattle.aio_timers.specs.Family.{Family, AreTops, Pairs}
use Rattle.aio_timers.proofs.merge.pair.Given as goal

abbrev pub invariant-loop-a : goal.invariant-loop-a
invariant-loop-a l = (f : Family) (ks : List ℕ) → AreTops l.fn.nodes f l.fn.first ks → Pairs l.fn.nodes l.nodes f ks l.rest l.done

abbrev pub decreases-loop-a : goal.decreases-loop-a
decreases-loop-a l = steps_from (length l.nodes) l.nodes l.rest
