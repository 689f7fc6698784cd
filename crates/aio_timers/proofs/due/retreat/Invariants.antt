-- Nothing else is ahead of the node reached, and each step up made the trail shorter.
use Rattle.std.proofs.Common.{ℕ, Option}
use Rattle.aio_timers.specs.Heap.{IsHeap}
use Rattle.aio_timers.specs.Due.{Trail, IsOnTrail}
use Rattle.aio_timers.proofs.DueLemmas.{Climbed}
use Rattle.aio_timers.proofs.due.retreat.Given as goal

abbrev pub invariant-loop : goal.invariant-loop
invariant-loop l = (root free : Option ℕ) (h : IsHeap l.fn.nodes root free) (t : Trail) → IsOnTrail l.fn.nodes h.family l.fn.from t → Climbed l.fn.nodes h.family t l.at l.counter
