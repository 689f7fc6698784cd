-- The nodes behind the link back were seen, and hold all wakers but those that are left.
use Rattle.std.proofs.Common.{◌≡◌, ℕ, List, Option, length}
use Rattle.aio_listen.specs.Listening.{wakers_of}
use Rattle.aio_listen.specs.Order.{IsOrder, Seen, entries_at}
use Rattle.aio_listen.proofs.drain.go_back.Given as goal

abbrev pub invariant-loop-steps : goal.invariant-loop-steps
invariant-loop-steps g l = (first : Option ℕ) (keys : List ℕ) → IsOrder l.fn.nodes first l.fn.last keys → l.fn.waiting ≡ length (wakers_of (entries_at l.fn.nodes keys)) → Seen l.fn.nodes keys l.at l.start l.left l.steps
