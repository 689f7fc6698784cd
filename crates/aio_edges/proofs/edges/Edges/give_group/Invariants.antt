use Rattle.std.proofs.Common.{◌≤◌, vec_capacity}
use Rattle.aio_edges.specs.Given.{AddsNamed}
use Rattle.aio_edges.proofs.edges.Edges.give_group.Given as goal

abbrev pub invariant-loop-place : goal.invariant-loop-place
invariant-loop-place l = AddsNamed l.fn.out.items l.out.items × (vec_capacity l.fn.out ≤ vec_capacity l.out)
