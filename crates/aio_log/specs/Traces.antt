-- The log of a trace: of the run of its steps over the poller in memory.
use Rattle.std.specs.Prelude.{ℕ, if◌then◌else◌, List, [], ◌∷◌, ◌++◌, flat_map, length, replicate, None, is_some}
use Rattle.aio_base.specs.declared.names.Event.{Event}
use Rattle.aio_base.specs.declared.steps.Step.{Step}
use Rattle.aio_base.specs.declared.steps.Step.TheVariants as step
use Rattle.aio_base.specs.Machine.{Outcome}
use Rattle.aio_base.specs.Script.{script_step, wait_answer, world_after}
use Rattle.aio_base.specs.Text.{ended_line}
use Rattle.aio_base.specs.World.{PollerAnswer, Succeeds, Gives, IsInterrupted, Fails, World, opening}
use Rattle.aio_log.specs.Entries.{entry, has_entry, log_header}

-- the events that a wait is given by this answer of the poller
abbrev pub events_in : PollerAnswer → List Event
events_in Succeeds = []
events_in (Gives events) = events
events_in IsInterrupted = []
events_in Fails = []

-- A whole round as its sections: its beginning, its wait, the handling of each event that the wait is to give, its end. Where a round runs it is its
-- beginning alone, which is refused.
abbrev pub sections : World → List Step
sections w =
    if is_some w.round then step.Begin None ∷ []
    else step.Begin None ∷ step.Wait ∷ replicate (length (events_in (wait_answer w))) step.Handle ++ step.Finish ∷ []

-- a step as those that stand for it in a log
abbrev pub standing_for : World → Step → List Step
standing_for w step.React = sections w
standing_for w s = s ∷ []

-- the entry of a step, where it has one
abbrev pub entry_where : Step → Outcome → List (List ℕ)
entry_where s o = if has_entry s then entry s o else []

-- the entries of steps over the poller in memory, from a world
abbrev pub script_entries : World → List Step → List (List ℕ)
script_entries w [] = []
script_entries w (s ∷ steps) = entry_where s (script_step w s) ++ script_entries (script_step w s).world steps

-- the same, with whole rounds as their sections
abbrev pub trace_entries : World → List Step → List (List ℕ)
trace_entries w [] = []
trace_entries w (s ∷ steps) = script_entries w (standing_for w s) ++ trace_entries (world_after w (standing_for w s)) steps

-- the log of a trace, line by line
abbrev pub trace_log_lines : List Step → List (List ℕ)
trace_log_lines steps = log_header ∷ trace_entries opening steps

-- the log of a trace
unfoldable pub trace_log : List Step → List ℕ
trace_log steps = flat_map ended_line (trace_log_lines steps)
