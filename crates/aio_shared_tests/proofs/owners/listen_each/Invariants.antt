-- The source keeps its key.
use Rattle.std.proofs.Common.{◌≡◌}
use Rattle.aio_shared_tests.proofs.owners.listen_each.Given as goal

abbrev pub invariant-loop : goal.invariant-loop
invariant-loop g l = l.cell.state.key ≡ l.initial.cell.state.key
