-- An auditor of a log: what it keeps of the lines before one, and what it says of the next. It keeps what is known of the world, and neither the lines
-- nor the run that they told.
use Rattle.std.specs.Prelude.{ℕ, zero, suc, ◌+◌, Bool, false, nat_lt, if◌then◌else◌, List, [], ◌∷◌, ◌++◌, length, Option, None, Some, option_map, bytes_eq}
use Rattle.std.specs.Option.{option_map_or}
use Rattle.aio_base.specs.declared.names.Event.{Event}
use Rattle.aio_base.specs.declared.steps.Step.{Step}
use Rattle.aio_base.specs.declared.steps.Step.TheVariants as step
use Rattle.aio_base.specs.Lines.{line_bytes}
use Rattle.aio_base.specs.Text.{answer_line}
use Rattle.aio_base.specs.Trace.{line_limit, lines_of}
use Rattle.aio_base.specs.World.{PollerAnswer, Gives, is_empty_list, opening}
use Rattle.aio_known.specs.Known.{Known, RoundKnown, known_of}
use Rattle.aio_known.specs.KnownSteps.{known_step}
use Rattle.aio_log.specs.declared.wrong.Wrong.{Wrong}
use Rattle.aio_log.specs.declared.wrong.Wrong.TheVariants as wrong
use Rattle.aio_log.specs.Entries.{log_header, wake_line}
use Rattle.aio_log.specs.Logs.{Told, WrongLine, is_whole, wrong_in}
use Rattle.aio_log.specs.Places.{AnswerPlace, EventPlace, HeaderPlace, Place, StepPlace, WakePlace, before_wakes, event_of, given_in, poller_told, step_of, when}

-- What an auditor keeps: what is known, the place of the next line, and how many steps were made.
pub record Auditor : Type 0 where
  pub known : Known
  pub place : Place
  pub steps : ℕ

-- before the first line
abbrev pub new_auditor : Auditor
new_auditor = record { known = known_of opening; place = HeaderPlace; steps = 0 }

-- whether a wait may be made
abbrev pub may_wait : Known → Bool
may_wait k = option_map_or (λ (round : RoundKnown). is_empty_list round.in_hand) k.round false

-- how many events a wait gave, where it may be made and the line says so
abbrev pub given_by : Known → Step → List ℕ → Option ℕ
given_by k step.Wait line = if may_wait k then given_in line else None
given_by k _ line = None

-- the line that answers a step during which the poller answers so
abbrev pub line_for : Known → Step → PollerAnswer → List ℕ
line_for k s told = answer_line (known_step k s told).answer

abbrev pub after_step : Auditor → Step → PollerAnswer → Auditor
after_step a s told =
    let o = known_step a.known s told in
    record { known = o.known; place = before_wakes o.wakes; steps = a.steps + 1 }

abbrev pub after_events : Auditor → ℕ → List Event → Auditor
after_events a zero given = after_step a step.Wait (Gives given)
after_events a (suc more) given = record a { place = EventPlace more given }

abbrev pub after_answer : Auditor → Step → List ℕ → Option ℕ → Option Auditor
after_answer a s line (Some count) = Some (after_events a count [])
after_answer a s line None = when (bytes_eq line (line_for a.known s (poller_told s line))) (after_step a s (poller_told s line))

-- what is kept behind a line, where it is right in its place
abbrev pub audit_in : Place → Auditor → List ℕ → Option Auditor
audit_in HeaderPlace a line = when (bytes_eq line log_header) (record a { place = StepPlace })
audit_in StepPlace a line = option_map (λ (s : Step). record a { place = AnswerPlace s }) (step_of line)
audit_in (AnswerPlace s) a line = after_answer a s line (given_by a.known s line)
audit_in (EventPlace more given) a line = option_map (λ (event : Event). after_events a more (given ++ event ∷ [])) (event_of line)
audit_in (WakePlace next later) a line = when (bytes_eq line (wake_line next)) (record a { place = before_wakes later })

abbrev pub audit_next : Auditor → List ℕ → Option Auditor
audit_next a line = if nat_lt line_bytes (length line) then None else audit_in a.place a line

-- what an auditor says in the end: how many steps were made, and which line is wrong, if one is
pub record Verdict : Type 0 where
  pub steps : ℕ
  pub wrong : Option WrongLine

abbrev pub refutes : Auditor → ℕ → Wrong → Verdict
refutes a line why = record { steps = a.steps; wrong = Some (record { line = line; why = why }) }

abbrev pub says_at_end : Auditor → ℕ → Verdict
says_at_end a line = if is_whole a.place then record { steps = a.steps; wrong = None } else refutes a line wrong.End

abbrev pub says_on : Auditor → ℕ → Option Auditor → (Auditor → Verdict) → Verdict
says_on a line None behind = refutes a line (wrong_in a.place)
says_on a line (Some next) behind = behind next

-- what it says of lines behind those that it has read; the first of them has this number
abbrev pub verdict_from : ℕ → Auditor → List (List ℕ) → Verdict
verdict_from line a [] = says_at_end a line
verdict_from line a (text ∷ lines) =
    if nat_lt line_limit line then refutes a line wrong.Lines
    else says_on a line (audit_next a text) (λ next. verdict_from (line + 1) next lines)

-- what it says of an input
unfoldable pub verdict_on : List ℕ → Verdict
verdict_on input = verdict_from 1 new_auditor (lines_of input)

-- what was told of a run, as a verdict
abbrev pub verdict_of : Told → Verdict
verdict_of told = record { steps = length told.run; wrong = told.wrong }
