-- What a read or a write leaves to do of a side.
use Rattle.std.proofs.Common.{◌≡◌, ℕ, zero, suc, ◌+◌, ◌<◌, ◌≤◌, ◌++◌, true, List, length, arith, Result, Ok, Err, length-append}
use Rattle.aio_future.specs.Tries.{MovesWithin, bytes_over}
use Rattle.aio_future.specs.declared.tried.TryFault.{TryFault}
use Rattle.aio_base.specs.declared.outcomes.Poll.{Poll}
use Rattle.aio_base.specs.declared.outcomes.Poll.TheVariants.{Ready, Pending}
use Rattle.aio_pairs.specs.Backlogs.{SideState}
use Rattle.aio_pairs.specs.Exchanges.{after_read, after_write, block, work_left}
use Rattle.aio_pairs.specs.declared.outcomes.Side.{Side}
use Rattle.aio_pairs.specs.declared.outcomes.Tally.{Tally}

-- a byte that is read is to be written, and is one less to read
pub read-work : (side : SideState) (tally : Tally) (bytes : List ℕ) (n : ℕ) → length bytes ≡ n → tally.read + n ≤ block
    → work_left (record side { backlog = side.backlog ++ bytes }) (record tally { read = tally.read + n }) + n ≡ work_left side tally
read-work side tally bytes n size within = omega (arith, length-append side.backlog bytes, size, within)

-- who goes on after a read read something
pub read-moves : (here : Side) (side : SideState) (answer : Poll (Result ℕ TryFault)) → after_read here side answer ≡ Ok true → 0 < bytes_over answer
read-moves here side (Ready (Ok zero)) on = absurd cc
read-moves here side (Ready (Ok (suc n))) on = omega arith
read-moves here side (Ready (Err f)) on = absurd cc
read-moves here side Pending on = absurd cc

-- who goes on after a write wrote something
pub write-moves : (room : ℕ) (answer : Poll (Result ℕ TryFault)) → MovesWithin room answer → after_write answer ≡ Ok true → 0 < bytes_over answer
write-moves room (Ready (Ok n)) moves on = moves.0
write-moves room (Ready (Err f)) moves on = absurd cc
write-moves room Pending moves on = absurd cc
