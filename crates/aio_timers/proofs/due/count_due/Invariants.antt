-- Of the nodes that were passed, those that are due are counted.
use Rattle.std.proofs.Common.{ℕ, Option}
use Rattle.aio_timers.specs.Heap.{IsHeap}
use Rattle.aio_timers.proofs.DueLemmas.{Walked}
use Rattle.aio_timers.proofs.due.count_due.Given as goal

abbrev pub invariant-loop : goal.invariant-loop
invariant-loop l = (free : Option ℕ) (h : IsHeap l.fn.nodes l.fn.root free) → Walked l.fn.nodes h.family l.fn.now l.at l.count l.counter
