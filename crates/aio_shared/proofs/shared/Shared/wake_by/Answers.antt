use Rattle.std.proofs.Common.{refl, ap}
use Rattle.aio_rules.specs.declared.seats.SeatView.{SeatView}
use Rattle.aio_shared.proofs.SeatOnly.{told_later}
use Rattle.aio_shared.proofs.shared.Shared.wake_by.Goals as goal

pub returns-clause-later : goal.returns-clause-later
returns-clause-later g c =
    rw (← c.m.view_is) (told_later _ _ _ _ refl c.wake.ensures.words (_, ap (λ (v : SeatView). v.did) c.wake.ensures.woke.did) c.wake.ensures.faults)
