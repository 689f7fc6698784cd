-- The wakers before the link on were taken, and `out` has the room that it had.
use Rattle.std.proofs.Common.{◌≡◌, ℕ, List}
use Rattle.std.specs.Prelude.{vec_capacity}
use Rattle.aio_listen.specs.Order.{IsTail, Taking}
use Rattle.aio_listen.proofs.drain.take_on.Given as goal

abbrev pub invariant-loop : goal.invariant-loop
invariant-loop g l = record {
  capacity : vec_capacity l.out ≡ vec_capacity l.fn.out;
  takes : (keys : List ℕ) → IsTail l.fn.nodes l.fn.start l.fn.steps keys → Taking l.fn.nodes l.nodes keys l.at l.counter l.fn.out.items l.out.items;
}
