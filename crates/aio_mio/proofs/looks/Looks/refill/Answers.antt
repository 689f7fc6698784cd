use Rattle.std.proofs.Common.{arith, length, ap}
use Rattle.std.proofs.lemmas.List.{length-drop}
use Rattle.aio_mio.proofs.looks.Looks.refill.Goals as goal

-- some events are left over
pub returns-then-self-len-clause-fresh : goal.returns-then-self-len-clause-fresh
returns-then-self-len-clause-fresh g c = λ empty.
    absurd
    (omega (arith, ap length empty, length-drop c.args.self.now.given c.args.self.now.came.items, c.len.ensures, c.if-self-len.true))
