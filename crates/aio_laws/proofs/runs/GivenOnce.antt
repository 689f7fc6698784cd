-- The poller in memory gives each event that it was told to give once, and in order.
use Rattle.std.proofs.Common.{◌≡◌, ℕ, Bool, true, false, cond, List, [], ◌∷◌, ◌++◌, refl, ap, ◌∙◌, sym, subst, ⊎_elim, append-nil, append_assoc}
use Rattle.std.specs.Prelude.{flat_map, take, drop}
use Rattle.std.specs.List.{Contains}
use Rattle.std.proofs.lemmas.List.{take-append-drop}
use Rattle.aio_base.specs.declared.names.Key.{Key}
use Rattle.aio_base.specs.declared.names.Waker.{Waker}
use Rattle.aio_base.specs.declared.names.Dir.{Dir}
use Rattle.aio_base.specs.declared.names.Event.{Event}
use Rattle.aio_base.specs.declared.outcomes.Which.{Which}
use Rattle.aio_base.specs.declared.outcomes.Which.TheVariants as which
use Rattle.aio_base.specs.declared.steps.Step.{Step}
use Rattle.aio_base.specs.declared.steps.Step.TheVariants as step
use Rattle.aio_base.specs.declared.steps.Answer.{Answer}
use Rattle.aio_base.specs.declared.steps.Answer.TheVariants as answer
use Rattle.aio_base.specs.declared.outcomes.DueFaults.{DueFaults}
use Rattle.aio_base.specs.World.{PollerAnswer, Gives, IsInterrupted, Fails, World, opening}
use Rattle.aio_base.specs.Machine.{next_answer, step_result}
use Rattle.aio_base.specs.Script.{wait_room, wait_answer, script_answers, after_wait, after_call, after_calls, script_step, world_after}
use Rattle.aio_laws.specs.Calls.{MayArm, OnlyArms, CallsFit}
use Rattle.aio_laws.specs.Drawn.{noted_after}
use Rattle.aio_laws.specs.Given.{event_noted, events_taken, all_taken, EachIsGivenOnce}
use Rattle.aio_laws.specs.Succession.{events_given}
use Rattle.aio_base.proofs.Membership.{none_is_in, first_is_in, later_is_in, among_cases}
use Rattle.aio_laws.proofs.steps.Calling.{calls_follow}
use Rattle.aio_laws.proofs.steps.Drawing.{draws_follow}

-- ## Calls without a wait

abbrev NoWait : List Which → Type 0
NoWait calls = (call : Which) → Contains calls call → call ≡ which.Wait → ⊥

silent : (calls : List Which) → calls ≡ [] → NoWait calls
silent calls none call among is = none_is_in call (subst (λ cs. Contains cs call) none among)

one : (first : Which) (calls : List Which) → (first ≡ which.Wait → ⊥) → calls ≡ first ∷ [] → NoWait calls
one first calls other only call among is =
    ⊎_elim (λ (same : first ≡ call). other (same ∙ is)) (λ (none : Contains [] call). none_is_in call none)
    (among_cases first [] call (subst (λ cs. Contains cs call) only among))

may_arm : (calls : List Which) → MayArm calls → NoWait calls
may_arm calls may = ⊎_elim (λ (none : calls ≡ []). silent calls none) (λ (only : calls ≡ which.Arm ∷ []). one which.Arm calls (λ same. cc) only) may

only_arms : (calls : List Which) → OnlyArms calls → NoWait calls
only_arms calls arms call among is = let wrong : which.Arm ≡ which.Wait = sym (arms call among) ∙ is in cc

-- whether a step waits
abbrev waits : Step → Bool
waits step.Wait = true
waits step.React = true
waits _ = false

add_no : (told : Answer) (calls : List Which) → CallsFit step.Add told calls → NoWait calls
add_no (answer.KeyIs key) calls fit = one which.Add calls (λ same. cc) fit
add_no answer.FaultAdd calls fit = one which.Add calls (λ same. cc) fit
add_no told calls fit = silent calls fit

del_no : (key : Key) (told : Answer) (calls : List Which) → CallsFit (step.Del key) told calls → NoWait calls
del_no key answer.Gone calls fit = one which.Remove calls (λ same. cc) fit
del_no key answer.FaultRemove calls fit = one which.Remove calls (λ same. cc) fit
del_no key told calls fit = silent calls fit

poll_no : (key : Key) (dir : Dir) (waker : Waker) (told : Answer) (calls : List Which) → CallsFit (step.Poll key dir waker) told calls → NoWait calls
poll_no key dir waker answer.Pending calls fit = may_arm calls fit
poll_no key dir waker answer.FaultArm calls fit = one which.Arm calls (λ same. cc) fit
poll_no key dir waker told calls fit = silent calls fit

listen_no : (number : ℕ) (waker : Waker) (told : Answer) (calls : List Which) → CallsFit (step.StepEar number waker) told calls → NoWait calls
listen_no number waker answer.Pending calls fit = may_arm calls fit
listen_no number waker answer.FaultArm calls fit = one which.Arm calls (λ same. cc) fit
listen_no number waker told calls fit = silent calls fit

handle_no : (told : Answer) (calls : List Which) → CallsFit step.Handle told calls → NoWait calls
handle_no (answer.Handled key false) calls fit = may_arm calls fit
handle_no (answer.Handled key true) calls fit = one which.Arm calls (λ same. cc) fit
handle_no told calls fit = silent calls fit

no_wait : (s : Step) → waits s ≡ false → (told : Answer) (calls : List Which) → CallsFit s told calls → NoWait calls
no_wait step.Add quiet told calls fit = add_no told calls fit
no_wait (step.Del key) quiet told calls fit = del_no key told calls fit
no_wait (step.Poll key dir waker) quiet told calls fit = poll_no key dir waker told calls fit
no_wait (step.StepEar number waker) quiet told calls fit = listen_no number waker told calls fit
no_wait step.Wait quiet told calls fit = absurd cc
no_wait step.Handle quiet told calls fit = handle_no told calls fit
no_wait step.React quiet told calls fit = absurd cc
no_wait _ quiet told calls fit = silent calls fit

-- ## What calls use up of what is noted

call_leaves : (call : Which) (u : World) → (call ≡ which.Wait → ⊥) → (after_call call u).noted ≡ u.noted
call_leaves which.Add u other = refl
call_leaves which.Arm u other = refl
call_leaves which.Remove u other = refl
call_leaves which.Wait u other = absurd (other refl)

calls_leave : (calls : List Which) (u : World) → NoWait calls → (after_calls calls u).noted ≡ u.noted
calls_leave [] u none = refl
calls_leave (call ∷ calls) u none =
    calls_leave calls (after_call call u) (λ c among. none c (later_is_in call calls c among)) ∙ call_leaves call u (none call (first_is_in call calls))

none_taken : (calls : List Which) (answers : List PollerAnswer) → NoWait calls → events_taken calls answers ≡ []
none_taken [] answers none = refl
none_taken (which.Add ∷ calls) answers none = refl
none_taken (which.Arm ∷ calls) answers none = refl
none_taken (which.Remove ∷ calls) answers none = refl
none_taken (which.Wait ∷ calls) answers none = absurd (none which.Wait (first_is_in which.Wait calls) refl)

-- a wait gives events from the front of those that are noted
waited_by : (fault interrupt : Bool) (noted : List Event)
    → events_given (cond fault Fails (cond interrupt IsInterrupted (Gives (take wait_room noted)))) ++ cond fault noted (cond interrupt noted (drop wait_room noted))
    ≡ noted
waited_by true interrupt noted = refl
waited_by false true noted = refl
waited_by false false noted = take-append-drop wait_room noted

waited_leaves : (u : World) → (after_wait u).noted ≡ cond u.due.wait u.noted (cond u.due.interrupt u.noted (drop wait_room u.noted))
waited_leaves u = by_due u.due.wait u.due.interrupt
  where
    by_due : (fault interrupt : Bool)
        → (cond fault (record u { due = record u.due { wait = false } })
        (cond interrupt (record u { due = record u.due { interrupt = false } }) (record u { noted = drop wait_room u.noted }))).noted
        ≡ cond fault u.noted (cond interrupt u.noted (drop wait_room u.noted))
    by_due true interrupt = refl
    by_due false true = refl
    by_due false false = refl

wait_gives : (w u : World) → u.noted ≡ w.noted → u.due ≡ w.due → events_given (wait_answer w) ++ (after_wait u).noted ≡ w.noted
wait_gives w u same due =
    ap (λ (rest : List Event). events_given (wait_answer w) ++ rest)
    (waited_leaves u ∙ ap (λ (d : DueFaults). cond d.wait u.noted (cond d.interrupt u.noted (drop wait_room u.noted))) due
    ∙ ap (λ (noted : List Event). cond w.due.wait noted (cond w.due.interrupt noted (drop wait_room noted))) same)
    ∙ waited_by w.due.wait w.due.interrupt w.noted

-- ## A step

noted_both : (s : Step) (noted : List Event) → noted_after s noted ≡ noted ++ event_noted s
noted_both (step.Note event) noted = refl
noted_both s noted = sym (append-nil noted)

-- what a step gave, and what is noted after it, are what was noted before and what the step notes
abbrev KeepsNoted : World → Step → List Which → World → Type 0
KeepsNoted w s calls v = (events_taken calls (script_answers w s) ++ v.noted ≡ w.noted ++ event_noted s)

quietly : (w u : World) (s : Step) (calls : List Which) → NoWait calls → u.noted ≡ noted_after s w.noted → KeepsNoted w s calls (after_calls calls u)
quietly w u s calls none noted =
    ap (λ (taken : List Event). taken ++ (after_calls calls u).noted) (none_taken calls (script_answers w s) none)
    ∙ calls_leave calls u none ∙ noted ∙ noted_both s w.noted

-- a step that waited, and armed behind that
waiting : (w u : World) (s : Step) (calls arms : List Which) → calls ≡ which.Wait ∷ arms → NoWait arms → u.noted ≡ w.noted → u.due ≡ w.due
    → next_answer (script_answers w s) ≡ wait_answer w → event_noted s ≡ [] → KeepsNoted w s calls (after_calls calls u)
waiting w u s calls arms is none noted due answers quiet =
    subst (λ cs. KeepsNoted w s cs (after_calls cs u)) (sym is)
    (ap (λ (a : PollerAnswer). events_given a ++ (after_calls arms (after_wait u)).noted) answers
    ∙ ap (λ (rest : List Event). events_given (wait_answer w) ++ rest) (calls_leave arms (after_wait u) none) ∙ wait_gives w u noted due
    ∙ sym (append-nil w.noted) ∙ ap (λ (more : List Event). w.noted ++ more) (sym quiet))

wait_by : (w u : World) (told : Answer) (calls : List Which) → CallsFit step.Wait told calls → u.noted ≡ w.noted → u.due ≡ w.due
    → KeepsNoted w step.Wait calls (after_calls calls u)
wait_by w u (answer.Given count) calls fit noted due = waiting w u step.Wait calls [] fit (silent [] refl) noted due refl refl
wait_by w u answer.Interrupted calls fit noted due = waiting w u step.Wait calls [] fit (silent [] refl) noted due refl refl
wait_by w u answer.FaultWait calls fit noted due = waiting w u step.Wait calls [] fit (silent [] refl) noted due refl refl
wait_by w u told calls fit noted due = quietly w u step.Wait calls (silent calls fit) noted

react_by : (w u : World) (told : Answer) (calls : List Which) → CallsFit step.React told calls → u.noted ≡ w.noted → u.due ≡ w.due
    → KeepsNoted w step.React calls (after_calls calls u)
react_by w u (answer.Round number events end) calls fit noted due = waiting w u step.React calls fit.0 fit.1 (only_arms fit.0 fit.2) noted due refl refl
react_by w u told calls fit noted due = quietly w u step.React calls (silent calls fit) noted

step_gives : (w : World) (s : Step) → KeepsNoted w s (script_step w s).calls (script_step w s).world
unfolding script_step
step_gives w step.Wait =
    let answers = script_answers w step.Wait in
    let o = step_result w step.Wait answers in
    let draws = draws_follow w step.Wait answers in
    wait_by w o.world o.answer o.calls (calls_follow w step.Wait answers).fit draws.noted draws.due
step_gives w step.React =
    let answers = script_answers w step.React in
    let o = step_result w step.React answers in
    let draws = draws_follow w step.React answers in
    react_by w o.world o.answer o.calls (calls_follow w step.React answers).fit draws.noted draws.due
step_gives w s =
    let answers = script_answers w s in
    let o = step_result w s answers in
    quietly w o.world s o.calls (no_wait s refl o.answer o.calls (calls_follow w s answers).fit) (draws_follow w s answers).noted

-- ## A run

run_gives : (steps : List Step) (w : World) → all_taken w steps ++ (world_after w steps).noted ≡ w.noted ++ flat_map event_noted steps
run_gives [] w = sym (append-nil w.noted)
run_gives (s ∷ steps) w =
    let first = script_step w s in
    let given : List Event = events_taken first.calls (script_answers w s) in
    let later : List Event = flat_map event_noted steps in
    append_assoc given (all_taken first.world steps) (world_after first.world steps).noted
    ∙ ap (λ (rest : List Event). given ++ rest) (run_gives steps first.world)
    ∙ sym (append_assoc given first.world.noted later)
    ∙ ap (λ (front : List Event). front ++ later) (step_gives w s)
    ∙ append_assoc w.noted (event_noted s) later

pub each_is_given_once : (steps : List Step) → EachIsGivenOnce steps
each_is_given_once steps = run_gives steps opening
