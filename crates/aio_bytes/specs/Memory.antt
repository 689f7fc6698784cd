-- Sources and sinks over bytes in memory, whose calls fail by a script: their states, and what one call makes of them.
use Rattle.std.specs.Prelude.{◌≡◌, ℕ, Bool, List, ◌++◌, take, drop, length, min, ◌==◌, Result, Ok, Err, IfOk, is_err}
use Rattle.std.specs.List.{list_any}
use Rattle.aio_base.specs.Devices.{raised}
use Rattle.aio_base.specs.declared.outcomes.Failed.{Failed}
use Rattle.aio_bytes.specs.Sinks.{is_failed}
use Rattle.aio_bytes.specs.declared.traits.SinkRefusal.{SinkRefusal}
use Rattle.aio_bytes.specs.declared.traits.SinkRefusal.TheVariants.{Failed as SinkFailed, OutOfMemory}

-- a source: the bytes left, the calls made, the most bytes that one call gives, the numbers of the calls that fail, the count of faults
pub record ScriptedSource : Type 0 where
  pub left : List ℕ
  pub calls : ℕ
  pub piece : ℕ
  pub fails : List ℕ
  pub fault_count : ℕ

-- a sink: the bytes written, the calls made, the numbers of the calls that fail, the count of faults
pub record ScriptedSink : Type 0 where
  pub written : List ℕ
  pub calls : ℕ
  pub fails : List ℕ
  pub fault_count : ℕ

-- whether the next call fails, where calls are numbered from 1 and the number stands still at its end
abbrev pub is_next_failing : List ℕ → ℕ → Bool
is_next_failing fails calls = list_any (λ number. number == raised calls) fails

-- how many bytes a call gives that has this much room
abbrev pub given_count : ScriptedSource → ℕ → ℕ
given_count source room = min (min room source.piece) (length source.left)

-- a source after a call: the bytes given are gone; a call that failed took none
abbrev pub after_read : ScriptedSource → Result (List ℕ) Failed → ScriptedSource
after_read source (Ok bytes) = record source { left = drop (length bytes) source.left; calls = raised source.calls }
after_read source (Err failed) = record source { calls = raised source.calls; fault_count = raised source.fault_count }

-- a sink after a call: the bytes taken stand at the end; a call that was refused added none
abbrev pub after_write : ScriptedSink → List ℕ → Result ℕ SinkRefusal → ScriptedSink
after_write sink piece (Ok count) = record sink { written = sink.written ++ take count piece; calls = raised sink.calls }
after_write sink piece (Err SinkFailed) = record sink { calls = raised sink.calls; fault_count = raised sink.fault_count }
after_write sink piece (Err OutOfMemory) = record sink { calls = raised sink.calls }

-- The relation of a read: it fails exactly where its number stands in the script, and else gives the next bytes, as many as the room, the piece and what is left allow.
pub record ScriptedReads (old : ScriptedSource) (room : ℕ) (answer : Result (List ℕ) Failed) (new : ScriptedSource) : Type 0 where
  pub fails : is_err answer ≡ is_next_failing old.fails old.calls
  pub bytes : IfOk answer (λ bytes. bytes ≡ take (given_count old room) old.left)
  pub state : new ≡ after_read old answer

-- The relation of a write: it fails exactly where its number stands in the script, and else takes the whole piece or wants memory.
pub record ScriptedWrites (old : ScriptedSink) (piece : List ℕ) (answer : Result ℕ SinkRefusal) (new : ScriptedSink) : Type 0 where
  pub fails : is_failed answer ≡ is_next_failing old.fails old.calls
  pub count : IfOk answer (λ n. n ≡ length piece)
  pub state : new ≡ after_write old piece answer

-- the relation of a write that never fails: it takes the whole piece, or wants memory and adds nothing
abbrev pub SureWrites : List ℕ → List ℕ → Result ℕ SinkRefusal → List ℕ → Type 0
SureWrites old piece (Ok count) new = (count ≡ length piece) × (new ≡ old ++ piece)
SureWrites old piece (Err SinkFailed) new = ⊥
SureWrites old piece (Err OutOfMemory) new = new ≡ old
