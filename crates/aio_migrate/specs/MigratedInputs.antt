-- What the lines of an input come to where they are written in the second version.
use Rattle.std.specs.Prelude.{ℕ, if◌then◌else◌, List, [], ◌∷◌}
use Rattle.aio_base.specs.Trace.{is_header, lines_of, trace_from, trace_of}
use Rattle.aio_replay.specs.Language.{Told}
use Rattle.aio_tasks.specs.Migrating.{migrated}

-- the text of the steps of these lines; none where the first is no header of the first version
abbrev pub migrated_text : List (List ℕ) → List ℕ
migrated_text [] = []
migrated_text (header ∷ lines) = if is_header header then migrated (trace_from 2 lines).steps else []

-- that text, and the line that is refused in the first version
abbrev pub migrated_input : List ℕ → Told (Unit {0})
migrated_input bytes = record { text = migrated_text (lines_of bytes); state = tt; refusal = (trace_of bytes).refusal }
