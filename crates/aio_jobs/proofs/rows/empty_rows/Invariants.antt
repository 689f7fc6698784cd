use Rattle.std.proofs.Common.{◌≡◌, length}
use Rattle.aio_jobs.proofs.Turns.{HaveNone}
use Rattle.aio_jobs.proofs.rows.empty_rows.Given as goal

abbrev pub invariant-loop-made : goal.invariant-loop-made
invariant-loop-made g l = HaveNone l.rows × (length l.rows ≡ l._made)
