-- What wrong machines would do with names, and that no law lets it pass.
use Rattle.std.proofs.Common.{◌≡◌, ℕ, ◌+◌, true, false, eqb, List, [], ◌∷◌, ◌++◌, length, get_or, codes, refl, ap, arith}
use Rattle.std.proofs.lemmas.Bool.Decides.{nat_tests}
use Rattle.std.specs.Fmt.{digits}
use Rattle.aio_base.specs.declared.names.Dir.TheVariants.{Read}
use Rattle.aio_base.specs.declared.names.Waker.{Waker}
use Rattle.aio_base.specs.declared.steps.Step.{Step}
use Rattle.aio_base.specs.declared.steps.Step.TheVariants as step
use Rattle.aio_base.specs.Machine.{step_result}
use Rattle.aio_base.specs.Script.{script_step}
use Rattle.aio_base.specs.Text.{answer_line}
use Rattle.aio_tasks.specs.declared.steps.Step2.{Step2}
use Rattle.aio_tasks.specs.declared.steps.Step2.TheVariants as step2
use Rattle.aio_tasks.specs.Tasks.{IsNamed, NameTaken, NoTask, State2, Task, only_answers, opening2, run_plain, state_after2}
use Rattle.aio_tasks.specs.TaskLaws.{AreApart, IsWakeLine, TasksFollow}

abbrev waker : ℕ → Waker
waker n = record { 0 = n }

abbrev task : List ℕ → ℕ → Task
task name n = record { name = name; waker = waker n }

abbrev two_tasks : List Task
two_tasks = task (codes "a") 1 ∷ task (codes "b") 2 ∷ []

-- before any step of the machine, with two tasks
abbrev before : State2
before = record opening2 { tasks = two_tasks }

-- a poll of reading, by this waker
abbrev poll : ℕ → Step
poll n = step.Poll (record { 0 = 0 }) Read (waker n)

abbrev poll_by : List ℕ → Step2
poll_by name = step2.Named (poll 0) name

-- with a source, which the first task has polled
abbrev polled : State2
polled = state_after2 before (step2.Plain step.Add ∷ step2.Plain (poll 1) ∷ [])

abbrev moved : State2 → State2
moved v = record v { world = record v.world { pos = v.world.pos + 1 } }

abbrev with_tasks : State2 → List Task → State2
with_tasks v tasks = record v { tasks = tasks }

abbrev first_waker : State2 → ℕ
first_waker v = (get_or v.tasks 0 (task [] 0)).waker.0

abbrev last_waker : State2 → ℕ
last_waker v = (get_or v.tasks 2 (task [] 0)).waker.0

differ : (a b : ℕ) → eqb a b ≡ false → a ≡ b → ⊥
differ a b other same = let no : eqb a b ≡ true = grind (arith, nat_tests) in absurd cc

-- ## A name that no task has

an_unknown_name_polls_with_waker_0 : TasksFollow before (poll_by (codes "c")) (run_plain before (poll 0)) → ⊥
an_unknown_name_polls_with_waker_0 f = let e = (f.unknown refl).answer in absurd cc

an_unknown_name_takes_a_position : TasksFollow before (poll_by (codes "c")) (only_answers (moved before) NoTask) → ⊥
an_unknown_name_takes_a_position f = differ 1 0 refl (ap (λ (v : State2). v.world.pos) (f.unknown refl).state)

an_unknown_name_wakes : TasksFollow before (poll_by (codes "c")) (record { answer = NoTask; wakes = waker 1 ∷ []; state = before }) → ⊥
an_unknown_name_wakes f = let e = (f.unknown refl).wakes in absurd cc

an_unknown_name_joins : TasksFollow before (poll_by (codes "c")) (only_answers (with_tasks before (two_tasks ++ task (codes "c") 0 ∷ [])) NoTask) → ⊥
an_unknown_name_joins f = differ 3 2 refl (ap (λ (v : State2). length v.tasks) (f.unknown refl).state)

an_unknown_name_is_told_taken : TasksFollow before (poll_by (codes "c")) (only_answers before NameTaken) → ⊥
an_unknown_name_is_told_taken f = let e = (f.unknown refl).answer in absurd cc

-- ## A name of a task

a_known_name_is_told_no_task : TasksFollow before (poll_by (codes "a")) (only_answers before NoTask) → ⊥
a_known_name_is_told_no_task f = let e = (f.known (waker 1) refl).answer in absurd cc

a_name_polls_for_another_task : TasksFollow polled (poll_by (codes "a")) (run_plain polled (poll 2)) → ⊥
unfolding script_step step_result
a_name_polls_for_another_task f = differ 1 0 refl (ap (λ (ws : List Waker). length ws) (f.known (waker 1) refl).wakes)

a_replaced_waker_is_not_woken : TasksFollow polled (poll_by (codes "b")) (record (run_plain polled (poll 2)) { wakes = [] }) → ⊥
unfolding script_step step_result
a_replaced_waker_is_not_woken f = differ 0 1 refl (ap (λ (ws : List Waker). length ws) (f.known (waker 2) refl).wakes)

a_named_poll_does_nothing : TasksFollow polled (poll_by (codes "b")) (record (run_plain polled (poll 2)) { state = polled }) → ⊥
unfolding script_step step_result
a_named_poll_does_nothing f = differ 2 3 refl (ap (λ (w : _). w.pos) (f.known (waker 2) refl).world)

a_named_poll_forgets_the_tasks : TasksFollow polled (poll_by (codes "b")) (record (run_plain polled (poll 2)) { state = with_tasks (run_plain polled (poll 2)).state [] }) → ⊥
unfolding script_step step_result
a_named_poll_forgets_the_tasks f = differ 0 2 refl (ap (λ (ts : List Task). length ts) (f.known (waker 2) refl).tasks)

-- ## A name for a waker

a_free_name_is_taken : TasksFollow before (step2.Task (codes "c") (waker 3)) (only_answers before NameTaken) → ⊥
a_free_name_is_taken f = let e = (f.free refl refl).0 in absurd cc

a_name_does_not_join : TasksFollow before (step2.Task (codes "c") (waker 3)) (only_answers before IsNamed) → ⊥
a_name_does_not_join f = differ 2 3 refl (ap (λ (v : State2). length v.tasks) (f.free refl refl).2)

a_name_joins_in_front : TasksFollow before (step2.Task (codes "c") (waker 3)) (only_answers (with_tasks before (task (codes "c") 3 ∷ two_tasks)) IsNamed) → ⊥
a_name_joins_in_front f = differ 3 1 refl (ap first_waker (f.free refl refl).2)

a_name_joins_with_another_waker : TasksFollow before (step2.Task (codes "c") (waker 3)) (only_answers (with_tasks before (two_tasks ++ task (codes "c") 4 ∷ [])) IsNamed) → ⊥
a_name_joins_with_another_waker f = differ 4 3 refl (ap last_waker (f.free refl refl).2)

a_name_joins_and_takes_a_position : TasksFollow before (step2.Task (codes "c") (waker 3)) (only_answers (moved (with_tasks before (two_tasks ++ task (codes "c") 3 ∷ []))) IsNamed) → ⊥
a_name_joins_and_takes_a_position f = differ 1 0 refl (ap (λ (v : State2). v.world.pos) (f.free refl refl).2)

a_name_is_given_twice : TasksFollow before (step2.Task (codes "a") (waker 3)) (only_answers (with_tasks before (two_tasks ++ task (codes "a") 3 ∷ [])) IsNamed) → ⊥
a_name_is_given_twice f = let e = (f.same_name refl).answer in absurd cc

a_waker_is_named_twice : TasksFollow before (step2.Task (codes "c") (waker 1)) (only_answers (with_tasks before (two_tasks ++ task (codes "c") 1 ∷ [])) IsNamed) → ⊥
a_waker_is_named_twice f = let e = (f.same_waker refl).answer in absurd cc

a_taken_name_changes_its_waker : TasksFollow before (step2.Task (codes "a") (waker 3)) (only_answers (with_tasks before (task (codes "a") 3 ∷ task (codes "b") 2 ∷ [])) NameTaken) → ⊥
a_taken_name_changes_its_waker f = differ 3 1 refl (ap first_waker (f.same_name refl).state)

a_taken_name_wakes_its_task : TasksFollow before (step2.Task (codes "a") (waker 3)) (record { answer = NameTaken; wakes = waker 1 ∷ []; state = before }) → ⊥
a_taken_name_wakes_its_task f = let e = (f.same_name refl).wakes in absurd cc

-- ## A step without a name

a_plain_step_is_told_no_task : TasksFollow before (step2.Plain step.Add) (record (run_plain before step.Add) { answer = NoTask }) → ⊥
a_plain_step_is_told_no_task f = let e = f.answer in absurd cc

a_plain_step_forgets_a_task : TasksFollow before (step2.Plain step.Add) (record (run_plain before step.Add) { state = with_tasks (run_plain before step.Add).state (task (codes "b") 2 ∷ []) }) → ⊥
a_plain_step_forgets_a_task f = differ 1 2 refl (ap (λ (ts : List Task). length ts) f.tasks)

-- ## Tasks and wakes

two_wakers_have_one_name : AreApart (task (codes "a") 1 ∷ task (codes "a") 2 ∷ []) → ⊥
two_wakers_have_one_name apart = let e = apart.0 in absurd cc

a_waker_has_two_names : AreApart (task (codes "a") 1 ∷ task (codes "b") 1 ∷ []) → ⊥
a_waker_has_two_names apart = let e = apart.1 in absurd cc

a_wake_is_told_without_its_name : IsWakeLine two_tasks (waker 1) (codes "wake 1") → ⊥
a_wake_is_told_without_its_name f = differ 49 97 refl (ap (λ (l : List ℕ). get_or l 5 0) (f.by_name (codes "a") refl))

a_wake_is_told_by_another_name : IsWakeLine two_tasks (waker 1) (codes "wake b") → ⊥
a_wake_is_told_by_another_name f = differ 98 97 refl (ap (λ (l : List ℕ). get_or l 5 0) (f.by_name (codes "a") refl))

a_waker_without_a_name_is_told_by_one : IsWakeLine two_tasks (waker 3) (codes "wake a") → ⊥
unfolding answer_line digits
a_waker_without_a_name_is_told_by_one f = differ 97 51 refl (ap (λ (l : List ℕ). get_or l 5 0) (f.by_number refl))
