use Rattle.std.proofs.Common.{rules}
use Rattle.aio_lock.proofs.Allowed.{may_close, laden_at_zero}
use Rattle.aio_lock.proofs.gate.Gate.attempt.Goals as goal

pub compare_exchange-found-requires : goal.compare_exchange-found-requires
compare_exchange-found-requires g c = (search rules, search rules, may_close _ _ _ _ _ _ c.seat-seat.ensures.rests)

pub unload-value-requires-clause-laden : goal.unload-value-requires-clause-laden
unload-value-requires-clause-laden g c = laden_at_zero _ _ _ _ _ c.compare_exchange-found.ensures.2 c.if-found-ne0.false
