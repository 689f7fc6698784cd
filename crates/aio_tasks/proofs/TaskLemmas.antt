-- Tasks stay apart, and a step of a run follows them.
use Rattle.std.proofs.Common.{◌≡◌, ℕ, Bool, true, false, ◌&&◌, cond, eqb, List, [], ◌∷◌, ◌++◌, Option, None, Some, refl, sym, ap, ◌∙◌, subst, arith}
use Rattle.std.specs.Prelude.{◌||◌, bytes_eq, find}
use Rattle.std.specs.List.{list_any}
use Rattle.std.specs.Option.{option_map}
use Rattle.std.proofs.lemmas.Bool.Decides.{nat_tests}
use Rattle.std.proofs.lemmas.Slice.Eq.{bytes_eq-Decides}
use Rattle.aio_base.specs.declared.names.Waker.{Waker}
use Rattle.aio_base.specs.declared.steps.Step.{Step}
use Rattle.aio_base.specs.Lines.{with_waker}
use Rattle.aio_tasks.specs.declared.steps.Step2.{Step2}
use Rattle.aio_tasks.specs.declared.steps.Step2.TheVariants as step2
use Rattle.aio_tasks.specs.Tasks.{NameTaken, NoTask, State2, Task, has_waker, is_called, name_of, run_named, run_task, second_step, state_after2, wake_line, waker_of}
use Rattle.aio_tasks.specs.TaskLaws.{AreApart, IsWakeLine, OnlyAnswers, RunsMachine, TaskFollows, TasksFollow, is_task}

or_false : (a b : Bool) → (a || b) ≡ false → (a ≡ false) × (b ≡ false)
or_false false b e = (refl, e)
or_false true b e = absurd cc

same_bytes : (a b : List ℕ) → bytes_eq a b ≡ true → a ≡ b
same_bytes a b = (bytes_eq-Decides a b).0

-- ## Looking up

called_by : (c d i j : Bool) → (i ≡ true → j ≡ true) → ((c && d) || i) ≡ true → (c || j) ≡ true
called_by true d i j more e = refl
called_by false d i j more e = more e

-- a name that is that of a waker is one of the names, and the waker is one of the wakers
task_called : (tasks : List Task) (name : List ℕ) (w : ℕ) → is_task tasks name w ≡ true → is_called tasks name ≡ true
task_called [] name w e = absurd cc
task_called (t ∷ tasks) name w e = called_by (bytes_eq t.name name) (eqb t.waker.0 w) (is_task tasks name w) (is_called tasks name) (task_called tasks name w) e

waker_by : (c d i j : Bool) → (i ≡ true → j ≡ true) → ((c && d) || i) ≡ true → (d || j) ≡ true
waker_by true true i j more e = refl
waker_by true false i j more e = more e
waker_by false true i j more e = refl
waker_by false false i j more e = more e

task_waker : (tasks : List Task) (name : List ℕ) (w : ℕ) → is_task tasks name w ≡ true → has_waker tasks w ≡ true
task_waker [] name w e = absurd cc
task_waker (t ∷ tasks) name w e = waker_by (bytes_eq t.name name) (eqb t.waker.0 w) (is_task tasks name w) (has_waker tasks w) (task_waker tasks name w) e

-- the waker of a name is found, where tasks are apart
waker_is : (tasks : List Task) → AreApart tasks → (name : List ℕ) (w : Waker) → is_task tasks name w.0 ≡ true → waker_of tasks name ≡ Some w
waker_is [] apart name w e = absurd cc
waker_is (t ∷ tasks) apart name w e = by_tests (bytes_eq t.name name) refl (eqb t.waker.0 w.0) refl (waker_is tasks apart.2 name w) e
  where
    by_tests : (c : Bool) → bytes_eq t.name name ≡ c → (d : Bool) → eqb t.waker.0 w.0 ≡ d → (is_task tasks name w.0 ≡ true → waker_of tasks name ≡ Some w)
        → ((c && d) || is_task tasks name w.0) ≡ true
        → option_map (λ (t : Task). t.waker) (cond c (Some t) (find (λ (t : Task). bytes_eq t.name name) tasks)) ≡ Some w
    by_tests true is true same more e =
        let n : t.waker.0 ≡ w.0 = grind (arith, nat_tests) in
        ap (λ (n : ℕ). let w : Waker = record { 0 = n } in Some w) n
    by_tests true is false other more e =
        let n : t.name ≡ name = same_bytes t.name name is in
        let yes : is_called tasks name ≡ true = task_called tasks name w.0 e in
        let no : is_called tasks name ≡ false = ap (is_called tasks) (sym n) ∙ apart.0 in
        absurd cc
    by_tests false other d same more e = more e

-- and the name of a waker
name_is : (tasks : List Task) → AreApart tasks → (name : List ℕ) (w : ℕ) → is_task tasks name w ≡ true → name_of tasks w ≡ Some name
name_is [] apart name w e = absurd cc
name_is (t ∷ tasks) apart name w e = by_tests (bytes_eq t.name name) refl (eqb t.waker.0 w) refl (name_is tasks apart.2 name w) e
  where
    by_tests : (c : Bool) → bytes_eq t.name name ≡ c → (d : Bool) → eqb t.waker.0 w ≡ d → (is_task tasks name w ≡ true → name_of tasks w ≡ Some name)
        → ((c && d) || is_task tasks name w) ≡ true
        → option_map (λ (t : Task). t.name) (cond d (Some t) (find (λ (t : Task). eqb t.waker.0 w) tasks)) ≡ Some name
    by_tests true is true same more e = ap Some (same_bytes t.name name is)
    by_tests true is false other more e = more e
    by_tests false other true same more e =
        let n : t.waker.0 ≡ w = grind (arith, nat_tests) in
        let yes : has_waker tasks w ≡ true = task_waker tasks name w e in
        let no : has_waker tasks w ≡ false = ap (has_waker tasks) (sym n) ∙ apart.1 in
        absurd cc
    by_tests false other false same more e = more e

waker_none : (tasks : List Task) (name : List ℕ) → is_called tasks name ≡ false → waker_of tasks name ≡ None
waker_none [] name e = refl
waker_none (t ∷ tasks) name e = by_test (bytes_eq t.name name) (waker_none tasks name) e
  where
    by_test : (c : Bool) → (is_called tasks name ≡ false → waker_of tasks name ≡ None) → (c || is_called tasks name) ≡ false
        → option_map (λ (t : Task). t.waker) (cond c (Some t) (find (λ (t : Task). bytes_eq t.name name) tasks)) ≡ None
    by_test true more e = absurd cc
    by_test false more e = more e

name_none : (tasks : List Task) (w : ℕ) → has_waker tasks w ≡ false → name_of tasks w ≡ None
name_none [] w e = refl
name_none (t ∷ tasks) w e = by_test (eqb t.waker.0 w) (name_none tasks w) e
  where
    by_test : (c : Bool) → (has_waker tasks w ≡ false → name_of tasks w ≡ None) → (c || has_waker tasks w) ≡ false
        → option_map (λ (t : Task). t.name) (cond c (Some t) (find (λ (t : Task). eqb t.waker.0 w) tasks)) ≡ None
    by_test true more e = absurd cc
    by_test false more e = more e

-- ## Joining

any_more : {A : Type 0} (test : A → Bool) (xs : List A) (y : A) → list_any test xs ≡ false → test y ≡ false → list_any test (xs ++ y ∷ []) ≡ false
any_more test [] y e f = ap (λ t. t || false) f
any_more test (x ∷ xs) y e f =
    let parts = or_false (test x) (list_any test xs) e in
    ap (λ t. t || list_any test (xs ++ y ∷ [])) parts.0 ∙ any_more test xs y parts.1 f

bytes_other : (a b : List ℕ) → bytes_eq a b ≡ false → bytes_eq b a ≡ false
bytes_other a b e = by_test (bytes_eq b a) refl
  where
    by_test : (t : Bool) → bytes_eq b a ≡ t → t ≡ false
    by_test false is = refl
    by_test true is = let yes : bytes_eq a b ≡ true = (bytes_eq-Decides a b).1 (sym (same_bytes b a is)) in absurd cc

number_other : (a b : ℕ) → eqb a b ≡ false → eqb b a ≡ false
number_other a b e = grind (arith, nat_tests)

apart_more : (tasks : List Task) (name : List ℕ) (w : Waker) → AreApart tasks → is_called tasks name ≡ false → has_waker tasks w.0 ≡ false
    → AreApart (tasks ++ record { name = name; waker = w } ∷ [])
apart_more [] name w apart other_name other_waker = (refl, refl, tt)
apart_more (t ∷ tasks) name w apart other_name other_waker =
    let names = or_false (bytes_eq t.name name) (is_called tasks name) other_name in
    let wakers = or_false (eqb t.waker.0 w.0) (has_waker tasks w.0) other_waker in
    let joins : Task = record { name = name; waker = w } in (
      any_more (λ (u : Task). bytes_eq u.name t.name) tasks joins apart.0 (bytes_other t.name name names.0),
      any_more (λ (u : Task). eqb u.waker.0 t.waker.0) tasks joins apart.1 (number_other t.waker.0 w.0 wakers.0),
      apart_more tasks name w apart.2 names.1 wakers.1,
    )

-- that tasks which are apart before these steps are so behind them
abbrev StayApart : List Step2 → Type 0
StayApart steps = (v : State2) → AreApart v.tasks → AreApart (state_after2 v steps).tasks

named_apart : (v : State2) (s : Step) (steps : List Step2) (o : Option Waker) → StayApart steps → AreApart v.tasks → AreApart (state_after2 (run_named v s o).state steps).tasks
named_apart v s steps None behind apart = behind v apart
named_apart v s steps (Some w) behind apart = behind (run_named v s (Some w)).state apart

task_apart : (v : State2) (name : List ℕ) (w : Waker) (steps : List Step2) (c d : Bool) → is_called v.tasks name ≡ c → has_waker v.tasks w.0 ≡ d → StayApart steps → AreApart v.tasks
    → AreApart (state_after2 (run_task v name w (c || d)).state steps).tasks
task_apart v name w steps true d is other behind apart = behind v apart
task_apart v name w steps false true is other behind apart = behind v apart
task_apart v name w steps false false is other behind apart = behind (run_task v name w false).state (apart_more v.tasks name w apart is other)

pub stay_apart : (steps : List Step2) → StayApart steps
stay_apart [] v apart = apart
stay_apart (step2.Plain s ∷ steps) v apart = stay_apart steps (second_step v (step2.Plain s)).state apart
stay_apart (step2.Named s name ∷ steps) v apart = named_apart v s steps (waker_of v.tasks name) (stay_apart steps) apart
stay_apart (step2.Task name w ∷ steps) v apart =
    task_apart v name w steps (is_called v.tasks name) (has_waker v.tasks w.0) refl refl (stay_apart steps) apart

-- ## A step

is_taken : (v : State2) (name : List ℕ) (w : Waker) (taken : Bool) → taken ≡ true → OnlyAnswers v NameTaken (run_task v name w taken)
is_taken v name w true e = record { answer = refl; wakes = refl; state = refl }
is_taken v name w false e = absurd cc

right_true : (a b : Bool) → b ≡ true → (a || b) ≡ true
right_true true b e = refl
right_true false b e = e

task_follows : (v : State2) (name : List ℕ) (w : Waker) → TaskFollows v name w (second_step v (step2.Task name w))
task_follows v name w = record {
  same_name = λ is. is_taken v name w (is_called v.tasks name || has_waker v.tasks w.0) (ap (λ c. c || has_waker v.tasks w.0) is);
  same_waker = λ is. is_taken v name w (is_called v.tasks name || has_waker v.tasks w.0) (right_true (is_called v.tasks name) (has_waker v.tasks w.0) is);
  free = λ no_name no_waker.
      let none : (is_called v.tasks name || has_waker v.tasks w.0) ≡ false = ap (λ c. c || has_waker v.tasks w.0) no_name ∙ no_waker in
      (ap (λ t. (run_task v name w t).answer) none, ap (λ t. (run_task v name w t).wakes) none, ap (λ t. (run_task v name w t).state) none);
}

pub step_follows : (v : State2) (s : Step2) → AreApart v.tasks → TasksFollow v s (second_step v s)
step_follows v (step2.Plain s) apart = record { answer = refl; wakes = refl; world = refl; tasks = refl }
step_follows v (step2.Named s name) apart = record {
  unknown = λ no. subst (λ (o : Option Waker). OnlyAnswers v NoTask (run_named v s o)) (sym (waker_none v.tasks name no)) (record { answer = refl; wakes = refl; state = refl });
  known = λ w is.
      subst (λ (o : Option Waker). RunsMachine v (with_waker s w) (run_named v s o)) (sym (waker_is v.tasks apart name w is))
      (record { answer = refl; wakes = refl; world = refl; tasks = refl });
}
step_follows v (step2.Task name w) apart = task_follows v name w

-- ## The line of a wake

pub wake_is_told : (tasks : List Task) (w : Waker) → AreApart tasks → IsWakeLine tasks w (wake_line w (name_of tasks w.0))
wake_is_told tasks w apart = record {
  by_name = λ name is. ap (wake_line w) (name_is tasks apart name w.0 is);
  by_number = λ none. ap (wake_line w) (name_none tasks w.0 none);
}
