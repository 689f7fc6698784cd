use Rattle.std.proofs.Common.{refl}
use Rattle.aio_shared.proofs.HandingOver.{woken_later}
use Rattle.aio_shared.proofs.shared.Shared.wake_other_parkers.Goals as goal

pub returns-clause-later : goal.returns-clause-later
returns-clause-later g c = rw (← c.m.view_is) (woken_later _ _ _ _ _ _ _ refl c.wake_first_slots.ensures.wakes.woke c.wake_first_slots.ensures.wakes.faults)
