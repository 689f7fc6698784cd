-- How a run is written down: one entry for each step, and in it one line for the step, one for its answer, one for each event that a wait gave, and one
-- for each task that was woken.
use Rattle.std.specs.Prelude.{ℕ, Bool, true, false, List, [], ◌∷◌, ◌++◌, map, codes, decimal}
use Rattle.std.specs.List.{join_with_byte}
use Rattle.aio_base.specs.declared.names.Event.{Event}
use Rattle.aio_base.specs.declared.names.Waker.{Waker}
use Rattle.aio_base.specs.declared.steps.Step.{Step}
use Rattle.aio_base.specs.declared.steps.Step.TheVariants as step
use Rattle.aio_base.specs.declared.steps.Answer.{Answer}
use Rattle.aio_base.specs.declared.steps.Answer.TheVariants as answer
use Rattle.aio_base.specs.Lines.{written_line}
use Rattle.aio_base.specs.Machine.{Outcome, hand_of}
use Rattle.aio_base.specs.Runs.{PolledStep, outcome_of}
use Rattle.aio_base.specs.Text.{answer_line, flags_text}
use Rattle.aio_base.specs.World.{World, opening}

-- the first line of a log; a later kind of log has another one
abbrev pub log_header : List ℕ
log_header = codes "log 1"

-- Whether a log has an entry of a step. It has none of what a poller in memory is told beforehand, for the answers of any poller stand in it as they
-- came; and a whole round has those of its sections.
abbrev pub has_entry : Step → Bool
has_entry (step.Note event) = false
has_entry (step.Fault kind) = false
has_entry step.Interrupt = false
has_entry step.React = false
has_entry _ = true

-- the line of an event that a wait gave: its key and its directions, as in the line of an `event` step
abbrev pub got_line : Event → List ℕ
got_line event = join_with_byte 32 (codes "got" ∷ decimal event.key.0 ∷ flags_text event.on ∷ [])

-- the line of a task that was woken
abbrev pub wake_line : Waker → List ℕ
wake_line waker = answer_line (answer.Wake waker)

-- what is in hand, where the answer says that a wait gave it
abbrev pub where_given : Answer → List Event → List Event
where_given (answer.Given count) hand = hand
where_given _ hand = []

-- the events that a step was given: what a wait that gave some left in hand
abbrev pub events_given : Step → Outcome → List Event
events_given step.Wait o = where_given o.answer (hand_of o.world.round)
events_given _ o = []

-- the entry of a step with this answer, these events and these wakes
abbrev pub entry_of : Step → Answer → List Event → List Waker → List (List ℕ)
entry_of s told events wakes = written_line s ∷ answer_line told ∷ map got_line events ++ map wake_line wakes

-- the entry of a step that came out so
abbrev pub entry : Step → Outcome → List (List ℕ)
entry s o = entry_of s o.answer (events_given s o) o.wakes

-- the entries of a run, from a world
abbrev pub entries : World → List PolledStep → List (List ℕ)
entries w [] = []
entries w (s ∷ run) = entry s.step (outcome_of w s) ++ entries (outcome_of w s).world run

-- the log of a run, line by line
abbrev pub log_lines : List PolledStep → List (List ℕ)
log_lines run = log_header ∷ entries opening run
