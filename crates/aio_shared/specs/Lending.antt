-- The seat of a member is lent to be changed.
use Rattle.std.specs.Prelude.{ℕ, List, Result}
use Rattle.std.specs.Borrow.{Lends, Fml, MutBor, RattleType}
use Rattle.aio_base.specs.declared.devices.Faults.{Ghosts}
use Rattle.aio_base.specs.declared.names.Event.{Event}
use Rattle.aio_base.specs.declared.outcomes.Failed.{Failed}
use Rattle.aio_base.specs.declared.outcomes.Waited.{Waited}
use Rattle.aio_base.specs.Devices.{WaitCall}
use Rattle.aio_words.specs.Seats.{SeatValue}
use Rattle.aio_words.specs.contracts.words.Pass.{the_row as the_pass}
use Rattle.aio_shared.specs.Members.{MemberValue}
use Rattle.aio_shared.specs.contracts.members.Member.{the_row}

-- the member's notifier, and the wait of its reactor with what that tells
module _ (N W : RattleType) (faults : Ghosts W.Denot) (wait_count : W.Denot → ℕ)
    (wait_step : W.Denot → WaitCall → Result Waited Failed → List Event → W.Denot → Type 0) where
  -- the member has the seat as it was left, and all else as before
  abbrev pub LendsPass : MutBor (MemberValue N.Denot) → MutBor SeatValue → Fml
  LendsPass m lent =
      Lends (the_row N W (record { wait_count = wait_count; wait_step = wait_step }) faults) the_pass m lent (λ seat. record m.now { pass = seat })
