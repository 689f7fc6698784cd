-- An adapter over a reader or a writer of std: what it holds, and what one call of it does.
use Rattle.std.specs.Prelude.{◌≡◌, ◌≢◌, ℕ, if◌then◌else◌, List, [], take, drop, Option, Result, Ok, Err, is_ok, MatchResult}
use Rattle.std.specs.Io.Buffered.{reader_buffer, reader_inner, reader_remaining}
use Rattle.std.specs.Io.KnownBytes.{Consumes, IsAtEnd, Keeps, WriteAppends}
use Rattle.std.specs.declared.io.buffered.BufReader.{BufReader}
use Rattle.aio_base.specs.Devices.{raised}
use Rattle.aio_base.specs.declared.outcomes.Failed.{Failed}
use Rattle.aio_bytes.specs.declared.traits.SinkRefusal.{SinkRefusal}
use Rattle.aio_bytes.specs.declared.traits.SinkRefusal.TheVariants.{OutOfMemory}

-- the reader or writer within, and the count of faults
pub record Adapter (T : Type 0) : Type 0 where
  pub inner : T
  pub fault_count : ℕ

-- the count after a call: it rises by one where the call fails, and stays else
abbrev pub counted : {T E : Type 0} → ℕ → Result T E → ℕ
counted count answer = if is_ok answer then count else raised count

-- a read of the reader within, as far as that tells its bytes
pub record ReadsBy {T : Type 0} (remaining : T → Option (List ℕ)) (old : Adapter T) (answer : Result (List ℕ) Failed) (new : Adapter T) : Type 0 where
  pub faults : new.fault_count ≡ counted old.fault_count answer
  pub inner : MatchResult answer
      (λ bytes. Consumes (remaining old.inner) (remaining new.inner) bytes × (bytes ≡ [] → IsAtEnd (remaining new.inner)))
      (λ _. Keeps (remaining old.inner) (remaining new.inner))

-- A read through a buffer: bytes that it holds are given, and the reader behind it is not asked, so it cannot wait. Where it holds none, the reader behind
-- is asked.
pub record ReadsBuffered {T A : Type 0} (remaining : T → Option (List ℕ)) (old : Adapter (BufReader T A)) (room : ℕ) (answer : Result (List ℕ) Failed) (new : Adapter (BufReader T A)) : Type 0 where
  pub reads : ReadsBy (reader_remaining remaining) old answer new
  pub in_hand : reader_buffer old.inner ≢ [] → answer ≡ Ok (take room (reader_buffer old.inner))
  pub left : reader_buffer old.inner ≢ [] → reader_buffer new.inner ≡ drop room (reader_buffer old.inner)
  pub unasked : reader_buffer old.inner ≢ [] → reader_inner new.inner ≡ reader_inner old.inner

-- a write to the writer within, as far as that tells its bytes; it takes no memory
pub record WritesBy {T : Type 0} (contents : T → Option (List ℕ)) (old : Adapter T) (piece : List ℕ) (answer : Result ℕ SinkRefusal) (new : Adapter T) : Type 0 where
  pub faults : new.fault_count ≡ counted old.fault_count answer
  pub inner : WriteAppends (contents old.inner) (contents new.inner) answer piece
  pub memory : answer ≢ Err OutOfMemory
