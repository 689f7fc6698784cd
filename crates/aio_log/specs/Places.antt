-- Which line is right behind the lines of a log before it. The lines before tell a run, and what the next line has to be.
use Rattle.std.specs.Prelude.{ℕ, zero, suc, Bool, true, false, ◌&&◌, nat_lt, nat_le, nat_eq, if◌then◌else◌, List, [], ◌∷◌, ◌++◌, drop, length, Option, None, Some, option_map, option_and_then, codes, bytes_eq}
use Rattle.std.specs.List.{starts_with, ends_with}
use Rattle.std.specs.Option.{option_map_or}
use Rattle.aio_base.specs.declared.names.Event.{Event}
use Rattle.aio_base.specs.declared.names.Waker.{Waker}
use Rattle.aio_base.specs.declared.steps.Step.{Step}
use Rattle.aio_base.specs.declared.steps.Step.TheVariants as step
use Rattle.aio_base.specs.declared.steps.Answer.TheVariants as answer
use Rattle.aio_base.specs.Lines.{line_bytes, numeral, step_read, written_line}
use Rattle.aio_base.specs.Machine.{step_result}
use Rattle.aio_base.specs.Runs.{PolledStep, outcome_of, world_of}
use Rattle.aio_base.specs.Script.{wait_room}
use Rattle.aio_base.specs.Text.{answer_line}
use Rattle.aio_base.specs.World.{PollerAnswer, Succeeds, Gives, IsInterrupted, Fails, RoundState, World, opening, is_empty_list}
use Rattle.aio_log.specs.Entries.{got_line, has_entry, log_header, wake_line}

-- ## What a line is, by its text alone

-- a value, where a test passes
abbrev pub when : {A : Type 0} → Bool → A → Option A
when true a = Some a
when false a = None

-- the step that a line is: the line is its one spelling, and the step has an entry
abbrev pub step_of : List ℕ → Option Step
step_of line = option_and_then (λ (s : Step). when (has_entry s && bytes_eq line (written_line s)) s) (step_read line)

-- the event of an `event` step
abbrev pub noted_in : Option Step → Option Event
noted_in (Some (step.Note event)) = Some event
noted_in _ = None

-- the event that a line is: the line is its one spelling. It is found by reading the line as one of an `event` step, with that first word in place of
-- its own.
abbrev pub event_of : List ℕ → Option Event
event_of line = option_and_then (λ (event : Event). when (bytes_eq line (got_line event)) event) (noted_in (step_read (codes "event" ++ drop 3 line)))

-- how many events a line says that a wait gave: `given` and a number, of as many as one wait may give
abbrev pub given_in : List ℕ → Option ℕ
given_in line = option_and_then (λ n. when (nat_le n wait_room && bytes_eq line (answer_line (answer.Given n))) n) (numeral (drop 6 line))

-- ## What a line tells of the poller

-- a line of the form `fault X`
abbrev pub is_fault : List ℕ → Bool
is_fault line = starts_with nat_eq line (codes "fault ")

-- a line that tells of a failed arm behind what it says of an event
abbrev pub has_arm_fault : List ℕ → Bool
has_arm_fault line = ends_with nat_eq line (codes " fault arm")

-- What the poller answered to the one call of a step, by the line of the step's answer; of events that it gave the lines behind tell. The fault in the
-- line of a round's end is one of an earlier step.
abbrev pub poller_told : Step → List ℕ → PollerAnswer
poller_told step.Wait line = if is_fault line then Fails else (if bytes_eq line (codes "interrupted") then IsInterrupted else Succeeds)
poller_told step.Handle line = if has_arm_fault line then Fails else Succeeds
poller_told _ line = if is_fault line then Fails else Succeeds

-- the line that answers a step during which the poller answers so
abbrev pub line_for : World → Step → PollerAnswer → List ℕ
line_for w s told = answer_line (step_result w s (told ∷ [])).answer

-- whether a wait may be made: a round runs, and has nothing in hand
abbrev pub may_wait : World → Bool
may_wait w = option_map_or (λ (round : RoundState). is_empty_list round.in_hand) w.round false

-- how many events a wait gave, where the step is a wait that may be made and the line says so
abbrev pub given_by : World → Step → List ℕ → Option ℕ
given_by w step.Wait line = if may_wait w then given_in line else None
given_by w _ line = None

-- ## Places

-- What the next line has to be: the header; a step; the answer to this step; an event of a wait, behind which so many more are to come, and which
-- gave these before; or the wake of this task, behind which these are to come.
pub data Place : Type 0 where
  HeaderPlace : Place
  StepPlace : Place
  AnswerPlace : Step → Place
  EventPlace : (more : ℕ) → (given : List Event) → Place
  WakePlace : (next : Waker) → (later : List Waker) → Place

-- lines that are right: the run that they tell, with the answers of the poller, and the place of the next line
pub record Reading : Type 0 where
  pub run : List PolledStep
  pub place : Place

-- before the first line
abbrev pub nothing_read : Reading
nothing_read = record { run = []; place = HeaderPlace }

-- the world that the run so far leaves
abbrev pub world_at : Reading → World
world_at r = world_of opening r.run

-- the place before these wakes, and the next step
abbrev pub before_wakes : List Waker → Place
before_wakes [] = StepPlace
before_wakes (waker ∷ wakers) = WakePlace waker wakers

-- the step is answered, and the poller's answer to it is known: it belongs to the run, and its wakes come next
abbrev pub after_step : Reading → Step → PollerAnswer → Reading
after_step r s told =
    let made : PolledStep = record { step = s; answers = told ∷ [] } in
    record { run = r.run ++ made ∷ []; place = before_wakes (outcome_of (world_at r) made).wakes }

-- a wait gave these events, and so many more are to come
abbrev pub after_events : Reading → ℕ → List Event → Reading
after_events r zero given = after_step r step.Wait (Gives given)
after_events r (suc more) given = record r { place = EventPlace more given }

-- behind an answer that says that so many events were given, or else behind one that is the machine's own
abbrev pub after_answer : Reading → Step → List ℕ → Option ℕ → Option Reading
after_answer r s line (Some count) = Some (after_events r count [])
after_answer r s line None = when (bytes_eq line (line_for (world_at r) s (poller_told s line))) (after_step r s (poller_told s line))

-- what is read behind a line, where it is right in its place
abbrev pub read_in : Place → Reading → List ℕ → Option Reading
read_in HeaderPlace r line = when (bytes_eq line log_header) (record r { place = StepPlace })
read_in StepPlace r line = option_map (λ (s : Step). record r { place = AnswerPlace s }) (step_of line)
read_in (AnswerPlace s) r line = after_answer r s line (given_by (world_at r) s line)
read_in (EventPlace more given) r line = option_map (λ (event : Event). after_events r more (given ++ event ∷ [])) (event_of line)
read_in (WakePlace next later) r line = when (bytes_eq line (wake_line next)) (record r { place = before_wakes later })

-- the same; a line of more than 256 bytes is right in no place
abbrev pub read_next : Reading → List ℕ → Option Reading
read_next r line = if nat_lt line_bytes (length line) then None else read_in r.place r line
