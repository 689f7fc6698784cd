use Rattle.std.proofs.Common.{ap}
use Rattle.aio_rules.specs.declared.seats.SeatView.{SeatView}
use Rattle.aio_park_tests.proofs.hand_over.unblock_first.Goals as goal

-- the seat blocked parker 0, so that its unblock leaves it idle
pub returns-clause-idle : goal.returns-clause-idle
returns-clause-idle c = ap (λ (v : SeatView). v.mode) (c.unblock.ensures.view 0 c.requires.blocks)
