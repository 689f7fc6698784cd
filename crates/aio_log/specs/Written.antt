-- That lines are the log of a run.
use Rattle.std.specs.Prelude.{◌≡◌, ℕ, ◌≤◌, true, List, [], ◌∷◌, map, length, ⊤}
use Rattle.std.specs.List.{All}
use Rattle.aio_base.specs.declared.names.Event.{Event}
use Rattle.aio_base.specs.declared.steps.Step.{Step}
use Rattle.aio_base.specs.declared.steps.Step.TheVariants as step
use Rattle.aio_base.specs.Lines.{HasSpelling, line_bytes}
use Rattle.aio_base.specs.Machine.{Outcome}
use Rattle.aio_base.specs.Runs.{PolledStep, answers_of, outcome_of, wakes_of, world_of}
use Rattle.aio_base.specs.Script.{wait_room}
use Rattle.aio_base.specs.Trace.{line_limit}
use Rattle.aio_base.specs.World.{World, opening}
use Rattle.aio_log.specs.Entries.{events_given, has_entry, log_lines}

-- an event that a line can spell
abbrev pub EventHasSpelling : Event → Type 0
EventHasSpelling event = HasSpelling (step.Note event)

-- A step has an entry and a spelling, and the events that it was given are no more than one wait may give, and each has a spelling.
pub record CanBeWritten (s : PolledStep) (o : Outcome) : Type 0 where
  pub has_entry : has_entry s.step ≡ true
  pub spelled : HasSpelling s.step
  pub few : length (events_given s.step o) ≤ wait_room
  pub events : All EventHasSpelling (events_given s.step o)

-- each step of a run from a world
abbrev pub AllCanBeWritten : World → List PolledStep → Type 0
AllCanBeWritten w [] = ⊤
AllCanBeWritten w (s ∷ run) = CanBeWritten s (outcome_of w s) × AllCanBeWritten (outcome_of w s).world run

-- Lines are the log of a run of the machine, with whatever the poller answered in it: the header and the entries, each line no longer than a line may
-- be, and no more lines than a log may have.
pub record AreLogOf (lines : List (List ℕ)) (run : List PolledStep) : Type 0 where
  pub lines_are : lines ≡ log_lines run
  pub steps : AllCanBeWritten opening run
  pub short : All (λ line. length line ≤ line_bytes) lines
  pub few : length lines ≤ line_limit

abbrev pub steps_of : List PolledStep → List Step
steps_of run = map (λ (s : PolledStep). s.step) run

-- Two runs are the same but for answers of the poller that no call asked for: the same steps, answers, wakes and world at the end.
pub record SameRun (a b : List PolledStep) : Type 0 where
  pub steps_are : steps_of a ≡ steps_of b
  pub answers_are : answers_of opening a ≡ answers_of opening b
  pub wakes_are : wakes_of opening a ≡ wakes_of opening b
  pub world_is : world_of opening a ≡ world_of opening b
