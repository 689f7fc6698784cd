-- What an input says as a log: the run that its lines tell, and the first line that is wrong.
use Rattle.std.specs.Prelude.{ℕ, ◌+◌, Bool, true, false, nat_lt, if◌then◌else◌, List, [], ◌∷◌, Option, None, Some}
use Rattle.aio_base.specs.Runs.{PolledStep}
use Rattle.aio_base.specs.Trace.{line_limit, lines_of}
use Rattle.aio_log.specs.declared.wrong.Wrong.{Wrong}
use Rattle.aio_log.specs.declared.wrong.Wrong.TheVariants as wrong
use Rattle.aio_log.specs.Places.{AnswerPlace, EventPlace, HeaderPlace, Place, Reading, StepPlace, WakePlace, nothing_read, read_next}

-- the word for a wrong line, by the place in which it stands
abbrev pub wrong_in : Place → Wrong
wrong_in HeaderPlace = wrong.Text
wrong_in StepPlace = wrong.Text
wrong_in (AnswerPlace s) = wrong.Answer
wrong_in (EventPlace more given) = wrong.Text
wrong_in (WakePlace next later) = wrong.Answer

-- whether no further line is needed: the header was read, and each entry is whole
abbrev pub is_whole : Place → Bool
is_whole StepPlace = true
is_whole _ = false

-- a wrong line by its number, or the one behind the last where lines are missing
pub record WrongLine : Type 0 where
  pub line : ℕ
  pub why : Wrong

-- a run, and the wrong line that ends the telling of it, where one does
pub record Told : Type 0 where
  pub run : List PolledStep
  pub wrong : Option WrongLine

-- the lines before this one are right, and it is wrong for this
abbrev pub wrong_at : Reading → ℕ → Wrong → Told
wrong_at r line why = record { run = r.run; wrong = Some (record { line = line; why = why }) }

-- no line is left
abbrev pub at_end : Reading → ℕ → Told
at_end r line = if is_whole r.place then record { run = r.run; wrong = None } else wrong_at r line wrong.End

-- what is told where a line is wrong, or else by the lines behind it
abbrev pub told_on : Reading → ℕ → Option Reading → (Reading → Told) → Told
told_on r line None behind = wrong_at r line (wrong_in r.place)
told_on r line (Some next) behind = behind next

-- what lines tell behind those that were read; the first of them has this number
abbrev pub told_from : ℕ → Reading → List (List ℕ) → Told
told_from line r [] = at_end r line
told_from line r (text ∷ lines) =
    if nat_lt line_limit line then wrong_at r line wrong.Lines
    else told_on r line (read_next r text) (λ next. told_from (line + 1) next lines)

-- what an input tells
unfoldable pub log_told : List ℕ → Told
log_told input = told_from 1 nothing_read (lines_of input)
