use Rattle.std.proofs.Common.{sym, arith}
use Rattle.aio_ops.proofs.Steps.{pushes}
use Rattle.aio_ops.proofs.ops.Ops.push.Goals as goal

pub push_as-requires-clause-rule : goal.push_as-requires-clause-rule
push_as-requires-clause-rule g c = (pushes _ _ _ _ c.self.invariant (sym c.p.invariant.4) (omega (arith, c.next_number-number.ensures, c.p.invariant.1)), λ items seats rule stands. tt)
