-- What an input says: its lines, the steps that they read as, and the line that is refused.
use Rattle.std.specs.Prelude.{ℕ, ◌+◌, ◌==◌, Bool, ◌&&◌, nat_le, nat_lt, if◌then◌else◌, List, [], ◌∷◌, length, Option, None, Some, codes, bytes_eq}
use Rattle.std.specs.Cmp.Lexicographic.{pointwise}
use Rattle.aio_base.specs.declared.steps.LineFault.{LineFault}
use Rattle.aio_base.specs.declared.steps.LineFault.TheVariants as fault
use Rattle.aio_base.specs.declared.steps.Step.{Step}
use Rattle.aio_base.specs.declared.steps.Reason.{Reason}
use Rattle.aio_base.specs.declared.steps.Reason.TheVariants as reason
use Rattle.aio_base.specs.Lines.{body_of, fault_of, line_bytes, step_read, words_in}
pub use Rattle.aio_base.specs.Lines.{IsMoment, IsPeriod, IsInRange}

-- ## The lines of an input

-- a byte in front of the first line, which begins with it where there is none
abbrev pub onto_first_line : ℕ → List (List ℕ) → List (List ℕ)
onto_first_line b [] = (b ∷ []) ∷ []
onto_first_line b (line ∷ lines) = (b ∷ line) ∷ lines

-- The lines without their line feeds. The last may lack it; after a line feed at the end no further line comes.
abbrev pub lines_of : List ℕ → List (List ℕ)
lines_of [] = []
lines_of (b ∷ bytes) = if b == 10 then [] ∷ lines_of bytes else onto_first_line b (lines_of bytes)

-- ## The steps of an input, and the line that is refused

pub record Refusal : Type 0 where
  pub line : ℕ
  pub reason : Reason

pub record Trace : Type 0 where
  pub steps : List Step
  pub refusal : Option Refusal

-- no line is left
abbrev pub complete : Trace
complete = record { steps = []; refusal = None }

abbrev pub refused : ℕ → Reason → Trace
refused line why = record { steps = []; refusal = Some (record { line = line; reason = why }) }

abbrev pub with_step : Step → Trace → Trace
with_step s trace = record trace { steps = s ∷ trace.steps }

-- a line with a fault is refused for it
abbrev pub reason_of : LineFault → Reason
reason_of fault.Long = reason.Long
reason_of fault.Byte = reason.Byte
reason_of fault.Empty = reason.Empty
reason_of fault.Command = reason.Command
reason_of fault.Count = reason.Count
reason_of fault.Number = reason.Number
reason_of fault.Direction = reason.Direction
reason_of fault.Flags = reason.Flags
reason_of fault.Choice = reason.Choice

-- the lines of a trace, its header among them
abbrev pub line_limit : ℕ
line_limit = 1000000

-- the step of a line in front of what the lines behind it say
abbrev pub with_read : Option Step → Trace → Trace
with_read None rest = rest
with_read (Some s) rest = with_step s rest

-- A line with a fault is refused, and nothing after it counts. One without a fault reads as a step, and as one alone, which comes before those of
-- the lines behind it.
abbrev pub trace_after : ℕ → Option LineFault → Option Step → Trace → Trace
trace_after line (Some f) read rest = refused line (reason_of f)
trace_after line None read rest = with_read read rest

-- what these lines say, the first of which has this number
abbrev pub trace_from : ℕ → List (List ℕ) → Trace
trace_from line [] = complete
trace_from line (text ∷ lines) =
    if nat_lt line_limit line then refused line reason.Lines else trace_after line (fault_of text) (step_read text) (trace_from (line + 1) lines)

abbrev pub header_words : List (List ℕ)
header_words = codes "trace" ∷ codes "1" ∷ []

-- the header is not too long, and has these words, whatever bytes a line may hold
abbrev pub is_header : List ℕ → Bool
is_header line = nat_le (length line) line_bytes && pointwise bytes_eq (words_in (body_of line)) header_words

abbrev pub trace_of_lines : List (List ℕ) → Trace
trace_of_lines [] = refused 1 reason.Header
trace_of_lines (header ∷ lines) = if is_header header then trace_from 2 lines else refused 1 reason.Header

-- what an input says: its steps, and the first line that is refused
unfoldable pub trace_of : List ℕ → Trace
trace_of input = trace_of_lines (lines_of input)
