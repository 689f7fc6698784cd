-- What a step of a run with tasks may do and has to do, in terms of which tasks stand, and of the machine.
use Rattle.std.specs.Prelude.{◌≡◌, ℕ, ◌==◌, Bool, true, false, ◌&&◌, List, [], ◌∷◌, ◌++◌, codes, bytes_eq}
use Rattle.std.specs.List.{list_any}
use Rattle.aio_base.specs.declared.names.Waker.{Waker}
use Rattle.aio_base.specs.declared.steps.Answer.TheVariants as answer
use Rattle.aio_base.specs.declared.steps.Step.{Step}
use Rattle.aio_base.specs.Lines.{with_waker}
use Rattle.aio_base.specs.Script.{script_step}
use Rattle.aio_base.specs.Text.{answer_line}
use Rattle.aio_tasks.specs.declared.steps.Step2.{Step2}
use Rattle.aio_tasks.specs.declared.steps.Step2.TheVariants as step2
use Rattle.aio_tasks.specs.Tasks.{Answer2, IsNamed, NameTaken, NoTask, Outcome2, State2, Task, Told, has_waker, is_called}

-- no name and no waker stands twice
abbrev pub AreApart : List Task → Type 0
AreApart [] = Unit {0}
AreApart (t ∷ tasks) = (is_called tasks t.name ≡ false) × (has_waker tasks t.waker.0 ≡ false) × AreApart tasks

-- whether this name is that of this waker
abbrev pub is_task : List Task → List ℕ → ℕ → Bool
is_task tasks name waker = list_any (λ (t : Task). bytes_eq t.name name && (t.waker.0 == waker)) tasks

-- nothing but this answer: nobody is woken, and the world with its position and the tasks are as they were
pub record OnlyAnswers (v : State2) (told : Answer2) (o : Outcome2) : Type 0 where
  pub answer : o.answer ≡ told
  pub wakes : o.wakes ≡ []
  pub state : o.state ≡ v

-- a step of the machine: answer, wakes and world are the machine's, and the tasks are as they were
pub record RunsMachine (v : State2) (s : Step) (o : Outcome2) : Type 0 where
  pub answer : o.answer ≡ Told (script_step v.world s).answer
  pub wakes : o.wakes ≡ (script_step v.world s).wakes
  pub world : o.state.world ≡ (script_step v.world s).world
  pub tasks : o.state.tasks ≡ v.tasks

-- a step for a name: no task, where none has it, whatever else would refuse the step; else the machine's step for the waker of that name
pub record NamedFollows (v : State2) (s : Step) (name : List ℕ) (o : Outcome2) : Type 0 where
  pub unknown : is_called v.tasks name ≡ false → OnlyAnswers v NoTask o
  pub known : (w : Waker) → is_task v.tasks name w.0 ≡ true → RunsMachine v (with_waker s w) o

-- A name for a waker: it is taken, where a task has the name, or where one is the waker; and else it joins the tasks behind them.
pub record TaskFollows (v : State2) (name : List ℕ) (w : Waker) (o : Outcome2) : Type 0 where
  pub same_name : is_called v.tasks name ≡ true → OnlyAnswers v NameTaken o
  pub same_waker : has_waker v.tasks w.0 ≡ true → OnlyAnswers v NameTaken o
  pub free : is_called v.tasks name ≡ false → has_waker v.tasks w.0 ≡ false
      → (o.answer ≡ IsNamed) × (o.wakes ≡ []) × (o.state ≡ record v { tasks = v.tasks ++ record { name = name; waker = w } ∷ [] })

abbrev pub TasksFollow : State2 → Step2 → Outcome2 → Type 0
TasksFollow v (step2.Plain s) o = RunsMachine v s o
TasksFollow v (step2.Named s name) o = NamedFollows v s name o
TasksFollow v (step2.Task name w) o = TaskFollows v name w o

-- the line of a wake: the name of the waker where it has one, and only then; else its number
pub record IsWakeLine (tasks : List Task) (w : Waker) (line : List ℕ) : Type 0 where
  pub by_name : (name : List ℕ) → is_task tasks name w.0 ≡ true → line ≡ codes "wake " ++ name
  pub by_number : has_waker tasks w.0 ≡ false → line ≡ answer_line (answer.Wake w)
