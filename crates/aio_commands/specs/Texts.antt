-- What became of a text that is buffered and written a block at a time.
use Rattle.std.specs.Prelude.{ℕ, List, ◌++◌, Option, Result, Ok, Err}
use Rattle.aio_bytes.specs.Sinks.{AppendsPart}
use Rattle.aio_bytes.specs.declared.traits.SinkRefusal.{SinkRefusal}
use Rattle.aio_replay.specs.Driving.{Sends}

-- a line was put at the end of the text, of which a front part, perhaps none, went out and the rest is kept; or it was refused, and a front part went
-- out
abbrev pub Buffers : Result (Unit {0}) SinkRefusal → Option (List ℕ) → Option (List ℕ) → List ℕ → List ℕ → List ℕ → Type 0
Buffers (Ok done) out_old out_new text_old text_new line = Sends out_old out_new (text_old ++ line) text_new
Buffers (Err refusal) out_old out_new text_old text_new line = AppendsPart out_old out_new (text_old ++ line)
