-- A run without names is one of the first version, and any run is one of the machine.
use Rattle.std.proofs.Common.{◌≡◌, ℕ, List, [], ◌∷◌, ◌++◌, map, Bool, true, false, ◌||◌, Option, None, Some, refl, ap, ◌∙◌}
use Rattle.aio_base.specs.declared.names.Waker.{Waker}
use Rattle.aio_base.specs.declared.steps.Answer.{Answer}
use Rattle.aio_base.specs.declared.steps.Step.{Step}
use Rattle.aio_base.specs.Script.{output, output_from, reply_text, script_step, world_after}
use Rattle.aio_base.specs.World.{World, opening}
use Rattle.aio_tasks.specs.declared.steps.Step2.{Step2}
use Rattle.aio_tasks.specs.declared.steps.Step2.TheVariants as step2
use Rattle.aio_tasks.specs.Tasks.{State2, Told, has_waker, is_called, made_from, made_named, opening2, output2, output2_from, reply_text2, run_named, run_task, second_step, state_after2, waker_of}

-- without tasks each wake is told by its number
reply_same : (told : Answer) (wakes : List Waker) → reply_text2 [] (Told told) wakes ≡ reply_text told wakes
unfolding reply_text reply_text2
reply_same told wakes = refl

plain_from : (w : World) (steps : List Step) → output2_from (record { world = w; tasks = [] }) (map (λ s. step2.Plain s) steps) ≡ output_from w steps
plain_from w [] = refl
plain_from w (s ∷ steps) =
    ap (λ text. text ++ output2_from (record { world = (script_step w s).world; tasks = [] }) (map (λ s. step2.Plain s) steps)) (reply_same (script_step w s).answer (script_step w s).wakes)
    ∙ ap (λ text. reply_text (script_step w s).answer (script_step w s).wakes ++ text) (plain_from (script_step w s).world steps)

pub plain_as_before : (steps : List Step) → output2 (map (λ s. step2.Plain s) steps) ≡ output steps
plain_as_before steps = plain_from opening steps

-- from each state these steps leave the world that the steps handed to the machine leave
abbrev MadeBehind : List Step2 → Type 0
MadeBehind steps = (v : State2) → (state_after2 v steps).world ≡ world_after v.world (made_from v steps)

named_run : (v : State2) (s : Step) (steps : List Step2) (o : Option Waker) → MadeBehind steps
    → (state_after2 (run_named v s o).state steps).world ≡ world_after v.world (made_named s o ++ made_from (run_named v s o).state steps)
named_run v s steps None behind = behind v
named_run v s steps (Some w) behind = behind (run_named v s (Some w)).state

task_run : (v : State2) (name : List ℕ) (waker : Waker) (steps : List Step2) (taken : Bool) → MadeBehind steps
    → (state_after2 (run_task v name waker taken).state steps).world ≡ world_after v.world (made_from (run_task v name waker taken).state steps)
task_run v name waker steps true behind = behind v
task_run v name waker steps false behind = behind (run_task v name waker false).state

made_run : (steps : List Step2) → MadeBehind steps
made_run [] v = refl
made_run (step2.Plain s ∷ steps) v = made_run steps (second_step v (step2.Plain s)).state
made_run (step2.Named s name ∷ steps) v = named_run v s steps (waker_of v.tasks name) (made_run steps)
made_run (step2.Task name waker ∷ steps) v = task_run v name waker steps (is_called v.tasks name || has_waker v.tasks waker.0) (made_run steps)

pub run_of_made : (steps : List Step2) → (state_after2 opening2 steps).world ≡ world_after opening (made_from opening2 steps)
run_of_made steps = made_run steps opening2
