-- The note of a cell, of which no call of its source changes anything.
use Rattle.std.specs.Prelude.{◌≡◌, ℕ, Bool, List, ◌∷◌, Option, Result}
use Rattle.aio_base.specs.declared.names.Key.{Key}
use Rattle.aio_base.specs.declared.names.Dir.{Dir}
use Rattle.aio_base.specs.declared.names.Waker.{Waker}
use Rattle.aio_base.specs.declared.names.Interest.{Interest}
use Rattle.aio_base.specs.declared.outcomes.Failed.{Failed}
use Rattle.aio_base.specs.Devices.{ArmCall, Interests}
use Rattle.aio_listen.specs.declared.ticket.Ticket.{Ticket}
use Rattle.aio_source.specs.declared.answers.Listened.{Listened}
use Rattle.aio_source.specs.Values.{SourceValue}
use Rattle.aio_source.specs.Rules.{polling, listening_first, listening_on, polling_again, unlistened, handling}
use Rattle.aio_source.specs.Lent.{UsesArm, arm_of, settled}

-- the key of a source, and then the rest of what is armed for it
abbrev pub cell_note : Key → List ℕ → List ℕ
cell_note key rest = key.0 ∷ rest

module _ {S : Type 0} (rest : S → List ℕ) where
  abbrev pub note : SourceValue → S → List ℕ
  note s io = cell_note s.key (rest io)

  abbrev pub NoteTellsCell : Type 0
  NoteTellsCell = (s t : SourceValue) (io other : S) → note s io ≡ note t other → (s.key ≡ t.key) × (rest io ≡ rest other)

module _ {S : Type 0} (step : S → ArmCall → Result (Unit {0}) Failed → S → Type 0) (tells : S → Option Interests) (rest : S → List ℕ)
    (count : S → ℕ) (is_sure : S → Bool) where
  -- a call on a source that left this one, after it had used the arm or not, leaves the note
  abbrev pub KeepsNote : SourceValue → SourceValue → Bool → Type 0
  KeepsNote s left arms = (answer : Result (Unit {0}) Failed) (old new : S)
      → UsesArm step tells rest count is_sure arms (arm_of left) answer old new
      → note rest (settled arms answer left) new ≡ note rest s old

  pub record CallsKeepNote : Type 0 where
    pub poll : (s : SourceValue) (dir : Dir) (waker : Waker) (ticker : ℕ) → KeepsNote s (polling s dir waker ticker).source (polling s dir waker ticker).arms
    pub first_listen : (s : SourceValue) (dir : Dir) (waker : Waker) (ticket : Option Ticket)
        → KeepsNote s (listening_first s dir waker ticket).source (listening_first s dir waker ticket).arms
    pub listen_again : (s : SourceValue) (dir : Dir) (l : Listened) (waker : Waker) → KeepsNote s (polling_again s dir l waker).source (polling_again s dir l waker).arms
    pub listen_on : (s : SourceValue) (dir : Dir) (ticket : Ticket) (waker : Waker) → KeepsNote s (listening_on s dir ticket waker).source (listening_on s dir ticket waker).arms
    pub handle : (s : SourceValue) (on : Interest) (round : ℕ) → KeepsNote s (handling s on round).source (handling s on round).arms
    pub unlisten : (s : SourceValue) (dir : Dir) (ticket : Ticket) (io : S) → note rest (unlistened s dir ticket) io ≡ note rest s io
