-- The seat of a round cell is lent to be changed.
use Rattle.std.specs.Prelude.{ℕ, List, Result}
use Rattle.std.specs.Borrow.{Lends, Fml, MutBor, RattleType}
use Rattle.aio_base.specs.declared.devices.Faults.{Ghosts}
use Rattle.aio_base.specs.declared.names.Event.{Event}
use Rattle.aio_base.specs.declared.outcomes.Failed.{Failed}
use Rattle.aio_base.specs.declared.outcomes.Waited.{Waited}
use Rattle.aio_base.specs.Devices.{WaitCall}
use Rattle.aio_words.specs.Seats.{SeatValue}
use Rattle.aio_words.specs.contracts.words.RoundSeat.{the_row as the_seat}
use Rattle.aio_shared.specs.Cells.{CellValue}
use Rattle.aio_shared.specs.contracts.cell.RoundCell.{the_row}

-- the half of the poller that waits, with what it tells
module _ (W : RattleType) (faults : Ghosts W.Denot) (wait_count : W.Denot → ℕ)
    (wait_step : W.Denot → WaitCall → Result Waited Failed → List Event → W.Denot → Type 0) where
  -- the cell has the seat as it was left, and all else as before
  abbrev pub LendsSeat : MutBor (CellValue W.Denot) → MutBor SeatValue → Fml
  LendsSeat cell lent =
      Lends (the_row W (record { wait_count = wait_count; wait_step = wait_step }) faults) the_seat cell lent (λ seat. record cell.now { seat = seat })
