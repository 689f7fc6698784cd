-- The root that was made, and the row that is left, which grows shorter.
use Rattle.std.proofs.Common.{ℕ, List, length}
use Rattle.aio_timers.specs.Rows.{steps_from}
use Rattle.aio_timers.specs.Family.{Family, AreTops, CombinesAt}
use Rattle.aio_timers.proofs.merge.combine.Given as goal

abbrev pub invariant-loop-at : goal.invariant-loop-at
invariant-loop-at l = (f : Family) (ks : List ℕ) → AreTops l.fn.nodes f l.fn.first ks → CombinesAt l.fn.nodes l.nodes f ks l.rest l.top

abbrev pub decreases-loop-at : goal.decreases-loop-at
decreases-loop-at l = steps_from (length l.nodes) l.nodes l.rest
