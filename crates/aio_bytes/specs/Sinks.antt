-- What the refusal of a sink says: whether the sink failed, and what became of the bytes that it holds.
use Rattle.std.specs.Prelude.{◌≡◌, ℕ, Bool, true, false, List, [], ◌∷◌, ◌++◌, drop, Option, Result, Ok, Err, IsErrOf}
use Rattle.std.specs.Io.KnownBytes.{Appends}
use Rattle.aio_bytes.specs.declared.traits.SinkRefusal.{SinkRefusal}
use Rattle.aio_bytes.specs.declared.traits.SinkRefusal.TheVariants.{Failed, OutOfMemory}

-- whether a call of a sink failed; want of memory is no failure of the sink
abbrev pub HasFailed : {T : Type 0} → Result T SinkRefusal → Type 0
HasFailed answer = IsErrOf answer Failed

-- the same, as a test
abbrev pub is_failed : {T : Type 0} → Result T SinkRefusal → Bool
is_failed (Ok done) = false
is_failed (Err Failed) = true
is_failed (Err OutOfMemory) = false

-- Some call of a sink was answered so, and left the sink in this state.
pub record RefusedBy {S : Type 0} (write_step : S → List ℕ → Result ℕ SinkRefusal → S → Type 0) (new : S) (refusal : SinkRefusal) : Type 0 where
  pub at : S
  pub piece : List ℕ
  pub call : write_step at piece (Err refusal) new

-- Calls of a sink took so many bytes each, and each of them was handed all the bytes that were left then; this holds of the state to which they led
-- and of the bytes that they left.
abbrev pub InTurn : {S : Type 0} → (S → List ℕ → Result ℕ SinkRefusal → S → Type 0) → S → List ℕ → List ℕ → (S → List ℕ → Type 0) → Type 0
InTurn write_step at bytes [] Led = Led at bytes
InTurn {S} write_step at bytes (count ∷ counts) Led = (next : S) × write_step at bytes (Ok count) next × InTurn write_step next (drop count bytes) counts Led

-- where such calls ended with this answer: nothing was left, or the last call was refused
abbrev pub EndsWith : {S : Type 0} → (S → List ℕ → Result ℕ SinkRefusal → S → Type 0) → Result (Unit {0}) SinkRefusal → S → S → List ℕ → Type 0
EndsWith write_step (Ok done) new at rest = (at ≡ new) × (rest ≡ [])
EndsWith write_step (Err refusal) new at rest = write_step at rest (Err refusal) new

-- Known bytes grow by a front part of these, perhaps none.
pub record AppendsPart (old new : Option (List ℕ)) (bytes : List ℕ) : Type 0 where
  pub added : List ℕ
  pub rest : List ℕ
  pub whole : bytes ≡ added ++ rest
  pub appended : Appends old new added

-- what was written of some bytes where a sink answered so: all of them, or a front part
abbrev pub Writes : Result (Unit {0}) SinkRefusal → Option (List ℕ) → Option (List ℕ) → List ℕ → Type 0
Writes (Ok done) old new bytes = Appends old new bytes
Writes (Err refusal) old new bytes = AppendsPart old new bytes
