-- One side of a pair: what was read of it and not yet written to the other.
use Rattle.std.specs.Prelude.{◌≡◌, ℕ, ◌+◌, ◌-◌, ◌^◌, Bool, true, false, zero, suc, List, [], ◌++◌, length, drop, min, Result, Ok, Err}
use Rattle.aio_base.specs.Connections.{Telling, ReadTells}
use Rattle.aio_base.specs.declared.names.Waker.{Waker}
use Rattle.aio_base.specs.declared.outcomes.Poll.{Poll}
use Rattle.aio_base.specs.declared.outcomes.Poll.TheVariants.{Ready, Pending}
use Rattle.aio_future.specs.Tries.{bytes_over}
use Rattle.aio_future.specs.declared.tried.TryFault.{TryFault}
use Rattle.aio_pairs.specs.Calls.{EndCall, Reads}
use Rattle.aio_pairs.specs.declared.outcomes.EndTried.{EndTried}

-- The bytes read of it and not yet written; how many were written; and whether a read found its end.
pub record SideState : Type 0 where
  pub backlog : List ℕ
  pub forwarded : ℕ
  pub ended : Bool

-- the side of which nothing was read
abbrev pub fresh_side : SideState
fresh_side = record { backlog = []; forwarded = 0; ended = false }

-- a count that stands still at the end of its type
abbrev pub saturated : ℕ → ℕ
saturated n = min n (2 ^ 64 - 1)

-- a read of no bytes is the end
abbrev pub ends_with : Poll (Result ℕ TryFault) → Bool → Bool
ends_with (Ready (Ok zero)) ended = true
ends_with (Ready (Ok (suc more))) ended = ended
ends_with (Ready (Err fault)) ended = ended
ends_with Pending ended = ended

-- the side once a read gave these bytes
abbrev pub grown : SideState → List ℕ → Poll (Result ℕ TryFault) → SideState
grown side bytes answer = record { backlog = side.backlog ++ bytes; forwarded = side.forwarded; ended = ends_with answer side.ended }

-- the side once so many bytes of its backlog were written
abbrev pub shrunk : SideState → ℕ → SideState
shrunk side n = record { backlog = drop n side.backlog; forwarded = saturated (side.forwarded + n); ended = side.ended }

-- one read of an end, whose bytes the side took up
pub record TakesUp {E : Type 0} (step : E → EndCall → E → Type 0) (told : E → Telling) (end end_after : E) (side side_after : SideState)
    (room : ℕ) (w : Waker) (tried : EndTried) : Type 0 where
  pub bytes : List ℕ
  pub size : length bytes ≡ bytes_over tried.answer
  pub side_is : side_after ≡ grown side bytes tried.answer
  pub call : step end (Reads room w tried bytes) end_after
  pub tells : ReadTells (told end) (told end_after) bytes (tried.answer ≡ Pending) (tried.answer ≡ Ready (Ok 0))
