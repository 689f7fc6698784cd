-- The run of a list of steps over the script poller, as a run of the machine for given answers.
use Rattle.std.proofs.Common.{◌≡◌, List, [], ◌∷◌, map, refl, ap, ◌∙◌, sym, Bool, true, false, cond}
use Rattle.aio_base.specs.declared.names.Waker.{Waker}
use Rattle.aio_base.specs.declared.outcomes.Which.{Which}
use Rattle.aio_base.specs.declared.outcomes.Which.TheVariants as which
use Rattle.aio_base.specs.declared.steps.Answer.{Answer}
use Rattle.aio_base.specs.declared.steps.Step.{Step}
use Rattle.aio_base.specs.World.{World}
use Rattle.aio_base.specs.Machine.{Outcome, step_result}
use Rattle.aio_base.specs.Script.{script_answers, after_call, after_calls, script_step, outcomes_from, world_after}
use Rattle.aio_base.specs.Runs.{PolledStep, outcome_of, answers_of, wakes_of, world_of, scripted, without_notes, outcome_without_notes}
use Rattle.aio_laws.proofs.runs.NotesUnread.{notes_unread}

-- two worlds differ in what is noted and due alone
abbrev Alike : World → World → Type 0
Alike w v = without_notes w ≡ without_notes v

-- ## What calls use up

either_alike : (test : Bool) (x y w : World) → Alike x w → Alike y w → Alike (cond test x y) w
either_alike true x y w first second = first
either_alike false x y w first second = second

call_alike : (call : Which) (w : World) → Alike (after_call call w) w
call_alike which.Add w = refl
call_alike which.Arm w = refl
call_alike which.Remove w = refl
call_alike which.Wait w = either_alike w.due.wait _ _ w refl (either_alike w.due.interrupt _ _ w refl refl)

calls_alike : (calls : List Which) (w : World) → Alike (after_calls calls w) w
calls_alike [] w = refl
calls_alike (call ∷ calls) w = calls_alike calls (after_call call w) ∙ call_alike call w

-- ## A step

-- the step of a scripted run, from a world that differs in what is noted and due alone
abbrev polled : World → Step → PolledStep
polled v s = record { step = s; answers = script_answers v s }

step_same : (w v : World) (s : Step) → Alike w v
    → outcome_without_notes (outcome_of w (polled v s)) ≡ outcome_without_notes (step_result v s (script_answers v s))
step_same w v s same = notes_unread w v s (script_answers v s) same

answer_same : (w v : World) (s : Step) → Alike w v → (outcome_of w (polled v s)).answer ≡ (script_step v s).answer
unfolding script_step
answer_same w v s same = ap (λ (o : Outcome). o.answer) (step_same w v s same)

wakes_same : (w v : World) (s : Step) → Alike w v → (outcome_of w (polled v s)).wakes ≡ (script_step v s).wakes
unfolding script_step
wakes_same w v s same = ap (λ (o : Outcome). o.wakes) (step_same w v s same)

world_same : (w v : World) (s : Step) → Alike w v → Alike (outcome_of w (polled v s)).world (script_step v s).world
unfolding script_step
world_same w v s same =
    let o = step_result v s (script_answers v s) in
    ap (λ (o : Outcome). o.world) (step_same w v s same) ∙ sym (calls_alike o.calls o.world)

-- ## Runs

answers_from : (w v : World) (steps : List Step) → Alike w v → answers_of w (scripted v steps) ≡ map (λ (o : Outcome). o.answer) (outcomes_from v steps)
answers_from w v [] same = refl
answers_from w v (s ∷ steps) same =
    ap (λ (a : Answer). a ∷ answers_of (outcome_of w (polled v s)).world (scripted (script_step v s).world steps)) (answer_same w v s same)
    ∙ ap (λ (later : List Answer). (script_step v s).answer ∷ later) (answers_from (outcome_of w (polled v s)).world (script_step v s).world steps (world_same w v s same))

wakes_from : (w v : World) (steps : List Step) → Alike w v → wakes_of w (scripted v steps) ≡ map (λ (o : Outcome). o.wakes) (outcomes_from v steps)
wakes_from w v [] same = refl
wakes_from w v (s ∷ steps) same =
    ap (λ (now : List Waker). now ∷ wakes_of (outcome_of w (polled v s)).world (scripted (script_step v s).world steps)) (wakes_same w v s same)
    ∙ ap (λ (later : List (List Waker)). (script_step v s).wakes ∷ later) (wakes_from (outcome_of w (polled v s)).world (script_step v s).world steps (world_same w v s same))

world_from : (w v : World) (steps : List Step) → Alike w v → Alike (world_of w (scripted v steps)) (world_after v steps)
world_from w v [] same = same
world_from w v (s ∷ steps) same = world_from (outcome_of w (polled v s)).world (script_step v s).world steps (world_same w v s same)

pub scripted_steps : (w : World) (steps : List Step) → map (λ (s : PolledStep). s.step) (scripted w steps) ≡ steps
scripted_steps w [] = refl
scripted_steps w (s ∷ steps) = ap (λ (later : List Step). s ∷ later) (scripted_steps (script_step w s).world steps)

pub scripted_answers : (w : World) (steps : List Step) → answers_of w (scripted w steps) ≡ map (λ (o : Outcome). o.answer) (outcomes_from w steps)
scripted_answers w steps = answers_from w w steps refl

pub scripted_wakes : (w : World) (steps : List Step) → wakes_of w (scripted w steps) ≡ map (λ (o : Outcome). o.wakes) (outcomes_from w steps)
scripted_wakes w steps = wakes_from w w steps refl

pub scripted_world : (w : World) (steps : List Step) → without_notes (world_of w (scripted w steps)) ≡ without_notes (world_after w steps)
scripted_world w steps = world_from w w steps refl
