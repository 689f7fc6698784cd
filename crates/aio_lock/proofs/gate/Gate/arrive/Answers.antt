use Rattle.std.proofs.Common.{rules}
use Rattle.aio_lock.proofs.Allowed.{arrives, laden_at_zero}
use Rattle.aio_lock.proofs.gate.Gate.arrive.Goals as goal

pub swap_new_seat-taken-requires : goal.swap_new_seat-taken-requires
swap_new_seat-taken-requires g c = (search rules, arrives _ _ _)

pub unload-value-requires-clause-laden : goal.unload-value-requires-clause-laden
unload-value-requires-clause-laden g c = laden_at_zero _ _ _ _ _ c.swap_new_seat-taken.ensures.1 c.if-taken-ne0.false
