-- Runs of the second version: over a world of the machine, and tasks, each a name of a waker.
use Rattle.std.specs.Prelude.{ℕ, ◌==◌, Bool, true, false, ◌||◌, List, [], ◌∷◌, ◌++◌, find, flat_map, Option, None, Some, codes, bytes_eq}
use Rattle.std.specs.List.{list_any}
use Rattle.std.specs.Option.{option_map}
use Rattle.aio_base.specs.declared.names.Waker.{Waker}
use Rattle.aio_base.specs.declared.steps.Answer.{Answer}
use Rattle.aio_base.specs.declared.steps.Answer.TheVariants as answer
use Rattle.aio_base.specs.declared.steps.Step.{Step}
use Rattle.aio_base.specs.Lines.{with_waker}
use Rattle.aio_base.specs.Script.{script_step}
use Rattle.aio_base.specs.Text.{answer_line, ended_line}
use Rattle.aio_base.specs.World.{World, opening}
use Rattle.aio_tasks.specs.declared.steps.Step2.{Step2}
use Rattle.aio_tasks.specs.declared.steps.Step2.TheVariants as step2

pub record Task : Type 0 where
  pub name : List ℕ
  pub waker : Waker

pub record State2 : Type 0 where
  pub world : World
  pub tasks : List Task

abbrev pub opening2 : State2
opening2 = record { world = opening; tasks = [] }

-- whether one of the tasks has this name
abbrev pub is_called : List Task → List ℕ → Bool
is_called tasks name = list_any (λ (t : Task). bytes_eq t.name name) tasks

-- whether one of them is this waker
abbrev pub has_waker : List Task → ℕ → Bool
has_waker tasks waker = list_any (λ (t : Task). t.waker.0 == waker) tasks

-- the waker that has this name, where one has
abbrev pub waker_of : List Task → List ℕ → Option Waker
waker_of tasks name = option_map (λ (t : Task). t.waker) (find (λ (t : Task). bytes_eq t.name name) tasks)

-- the name that this waker has, where it has one
abbrev pub name_of : List Task → ℕ → Option (List ℕ)
name_of tasks waker = option_map (λ (t : Task). t.name) (find (λ (t : Task). t.waker.0 == waker) tasks)

-- An answer: one of the machine, or one that tells of names. A task has its name now; name or waker has a task already; no task has the name.
pub data Answer2 : Type 0 where
  Told : Answer → Answer2
  IsNamed : Answer2
  NameTaken : Answer2
  NoTask : Answer2

-- the line of an answer, without its line feed
abbrev pub answer2_line : Answer2 → List ℕ
answer2_line (Told a) = answer_line a
answer2_line IsNamed = codes "named"
answer2_line NameTaken = codes "name taken"
answer2_line NoTask = codes "no task"

-- what comes of a step: its answer, its wakes, and the state behind it
pub record Outcome2 : Type 0 where
  pub answer : Answer2
  pub wakes : List Waker
  pub state : State2

-- a step goes to the machine, and changes no task
abbrev pub run_plain : State2 → Step → Outcome2
run_plain v s = record {
  answer = Told (script_step v.world s).answer;
  wakes = (script_step v.world s).wakes;
  state = record v { world = (script_step v.world s).world };
}

-- only an answer comes of a step
abbrev pub only_answers : State2 → Answer2 → Outcome2
only_answers v told = record { answer = told; wakes = []; state = v }

abbrev pub run_named : State2 → Step → Option Waker → Outcome2
run_named v s None = only_answers v NoTask
run_named v s (Some w) = run_plain v (with_waker s w)

abbrev pub run_task : State2 → List ℕ → Waker → Bool → Outcome2
run_task v name waker true = only_answers v NameTaken
run_task v name waker false = record { answer = IsNamed; wakes = []; state = record v { tasks = v.tasks ++ record { name = name; waker = waker } ∷ [] } }

-- a step of a run: one with a name is a step of the machine with the waker of that name, where there is one
abbrev pub second_step : State2 → Step2 → Outcome2
second_step v (step2.Plain s) = run_plain v s
second_step v (step2.Named s name) = run_named v s (waker_of v.tasks name)
second_step v (step2.Task name waker) = run_task v name waker (is_called v.tasks name || has_waker v.tasks waker.0)

-- a wake names its task, and tells a waker without a task by its number
abbrev pub wake_line : Waker → Option (List ℕ) → List ℕ
wake_line waker None = answer_line (answer.Wake waker)
wake_line waker (Some name) = codes "wake " ++ name

-- the text of a step: the line of its answer, then those of its wakes
unfoldable pub reply_text2 : List Task → Answer2 → List Waker → List ℕ
reply_text2 tasks told wakes = ended_line (answer2_line told) ++ flat_map (λ (waker : Waker). ended_line (wake_line waker (name_of tasks waker.0))) wakes

abbrev pub outcome_text : Outcome2 → List ℕ
outcome_text o = reply_text2 o.state.tasks o.answer o.wakes

-- the text of a run from a state
abbrev pub output2_from : State2 → List Step2 → List ℕ
output2_from v [] = []
output2_from v (s ∷ steps) = outcome_text (second_step v s) ++ output2_from (second_step v s).state steps

-- the state behind a run
abbrev pub state_after2 : State2 → List Step2 → State2
state_after2 v [] = v
state_after2 v (s ∷ steps) = state_after2 (second_step v s).state steps

-- the text of a run from its beginning
abbrev pub output2 : List Step2 → List ℕ
output2 steps = output2_from opening2 steps

-- ## The machine's steps of such a run

-- the step that is handed to the machine, where one is
abbrev pub made_named : Step → Option Waker → List Step
made_named s None = []
made_named s (Some w) = with_waker s w ∷ []

abbrev pub made : State2 → Step2 → List Step
made v (step2.Plain s) = s ∷ []
made v (step2.Named s name) = made_named s (waker_of v.tasks name)
made v (step2.Task name waker) = []

-- the steps that a run hands to the machine, in order
abbrev pub made_from : State2 → List Step2 → List Step
made_from v [] = []
made_from v (s ∷ steps) = made v s ++ made_from (second_step v s).state steps
