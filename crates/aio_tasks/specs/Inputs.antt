-- The steps of an input of the second version, and its first line that is refused.
use Rattle.std.specs.Prelude.{ℕ, ◌+◌, ◌-◌, Bool, ◌&&◌, nat_le, nat_lt, if◌then◌else◌, List, [], ◌∷◌, ◌++◌, length, replicate, Option, None, Some, Result, Ok, Err, codes, bytes_eq}
use Rattle.std.specs.Cmp.Lexicographic.{pointwise}
use Rattle.aio_base.specs.Lines.{body_of, line_bytes, words_in}
use Rattle.aio_base.specs.Trace.{lines_of}
use Rattle.aio_tasks.specs.declared.steps.Line2.{Line2}
use Rattle.aio_tasks.specs.declared.steps.Line2.TheVariants as line
use Rattle.aio_tasks.specs.declared.steps.LineFault2.{LineFault2}
use Rattle.aio_tasks.specs.declared.steps.Step2.{Step2}
use Rattle.aio_tasks.specs.Lines2.{second_read}

-- Why a line is refused: it has a fault; it is no header in the first place; it is past the last that an input may have; it is a repeat right behind
-- a repeat, or the last line; or with its step there would be more than an input may have.
pub data Reason2 : Type 0 where
  Faulty : LineFault2 → Reason2
  NoHeader : Reason2
  TooManyLines : Reason2
  NoStepBehind : Reason2
  TooManySteps : Reason2

pub record Refusal2 : Type 0 where
  pub line : ℕ
  pub reason : Reason2

pub record Input2 : Type 0 where
  pub steps : List Step2
  pub refusal : Option Refusal2

abbrev pub refused2 : ℕ → Reason2 → Input2
refused2 line why = record { steps = []; refusal = Some (record { line = line; reason = why }) }

-- the lines of an input, its header among them
abbrev pub line_limit2 : ℕ
line_limit2 = 4000000

-- the steps of an input, each counted as often as it is repeated
abbrev pub step_limit2 : ℕ
step_limit2 = 4000000

abbrev pub with_steps : ℕ → Step2 → Input2 → Input2
with_steps times s rest = record rest { steps = replicate times s ++ rest.steps }

-- how often the next step runs: as the repeat before it says, else once
abbrev pub times_of : Option ℕ → ℕ
times_of None = 1
times_of (Some times) = times

-- What a line comes to, where the line before it was this repeat or none, and so many steps came before; `behind` says it of the lines behind.
abbrev pub line_says : ℕ → Option ℕ → ℕ → Result Line2 LineFault2 → (Option ℕ → ℕ → Input2) → Input2
line_says number due count (Err f) behind = refused2 number (Faulty f)
line_says number None count (Ok (line.Repeat times)) behind = behind (Some times) count
line_says number (Some due) count (Ok (line.Repeat times)) behind = refused2 number NoStepBehind
line_says number due count (Ok (line.Step s)) behind =
    if nat_lt step_limit2 (count + times_of due) then refused2 number TooManySteps else with_steps (times_of due) s (behind None (count + times_of due))

-- the lines end: a repeat may not be the last of them
abbrev pub no_line_says : ℕ → Option ℕ → Input2
no_line_says number None = record { steps = []; refusal = None }
no_line_says number (Some due) = refused2 (number - 1) NoStepBehind

-- what these lines say, the first of which has this number
abbrev pub lines_say : ℕ → Option ℕ → ℕ → List (List ℕ) → Input2
lines_say number due count [] = no_line_says number due
lines_say number due count (bytes ∷ lines) =
    if nat_lt line_limit2 number then refused2 number TooManyLines
    else line_says number due count (second_read bytes) (λ due count. lines_say (number + 1) due count lines)

abbrev pub header_words2 : List (List ℕ)
header_words2 = codes "trace" ∷ codes "2" ∷ []

-- the header is not too long, and has these words, whatever bytes a line may hold
abbrev pub is_header2 : List ℕ → Bool
is_header2 line = nat_le (length line) line_bytes && pointwise bytes_eq (words_in (body_of line)) header_words2

abbrev pub input_of_lines : List (List ℕ) → Input2
input_of_lines [] = refused2 1 NoHeader
input_of_lines (header ∷ lines) = if is_header2 header then lines_say 2 None 0 lines else refused2 1 NoHeader

-- what an input says: its steps, and the first line that is refused
unfoldable pub input_of : List ℕ → Input2
input_of bytes = input_of_lines (lines_of bytes)
