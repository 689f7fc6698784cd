-- Each step gives what follows from what is known.
use Rattle.std.proofs.Common.{◌≡◌, List, [], ◌∷◌, find, None, Some, refl, sym, ap, ◌∙◌}
use Rattle.aio_base.specs.declared.steps.Step.{Step}
use Rattle.aio_base.specs.declared.steps.Step.TheVariants as step
use Rattle.aio_base.specs.Machine.{Outcome, is_listener, is_timer, step_result}
use Rattle.aio_base.specs.Runs.{PolledStep, world_of}
use Rattle.aio_base.specs.World.{PollerAnswer, World, opening}
use Rattle.aio_facts.specs.Facts.{serial_in}
use Rattle.aio_laws.proofs.cover.CoverRuns.{run_waits_for_live}
use Rattle.aio_known.specs.Known.{Known, known_of}
use Rattle.aio_known.specs.KnownRuns.{Alike, IsSection, Reached}
use Rattle.aio_known.specs.KnownSteps.{Follows, KnownOutcome, known_step}
use Rattle.aio_known.proofs.KnownHandles.{handle_follows}
use Rattle.aio_known.proofs.KnownListeners.{drop_follows, new_follows, step_follows}
use Rattle.aio_known.proofs.KnownPolls.{poll_follows}
use Rattle.aio_known.proofs.KnownRounds.{begin_follows, finish_follows, wait_follows}
use Rattle.aio_known.proofs.KnownSources.{add_follows, del_follows}
use Rattle.aio_known.proofs.SoundRuns.{run_is_sound}
use Rattle.aio_known.proofs.KnownTimers.{end_follows, made_follows, now_follows, set_follows, tick_follows}

pub step_follows_known : (w : World) (s : Step) (told : PollerAnswer) → Reached w → IsSection s → Follows (step_result w s (told ∷ [])) (known_step (known_of w) s told)
unfolding step_result
step_follows_known w step.Add told reached section = add_follows w told reached
step_follows_known w (step.Del key) told reached section = del_follows w key.0 (serial_in w.live key.0) told reached refl
step_follows_known w (step.Poll key dir waker) told reached section = poll_follows w key.0 (serial_in w.live key.0) dir waker told reached.sound refl
step_follows_known w (step.New key dir) told reached section = new_follows w key.0 dir (serial_in w.live key.0) told reached.sound refl
step_follows_known w (step.StepEar number waker) told reached section = step_follows w number (find (is_listener number) w.listeners) waker told reached refl
step_follows_known w (step.DropEar number) told reached section = drop_follows w number (find (is_listener number) w.listeners) told reached refl
step_follows_known w (step.TimerAt deadline) told reached section = made_follows w _ _ (told ∷ [])
step_follows_known w (step.TimerEvery deadline period) told reached section = made_follows w _ _ (told ∷ [])
step_follows_known w step.TimerNever told reached section = made_follows w _ _ (told ∷ [])
step_follows_known w (step.Tick number waker) told reached section = tick_follows w waker (find (is_timer number) w.timers) (told ∷ [])
step_follows_known w (step.SetAt number deadline) told reached section = set_follows w deadline None (find (is_timer number) w.timers) (told ∷ [])
step_follows_known w (step.SetEvery number deadline period) told reached section = set_follows w deadline (Some period) (find (is_timer number) w.timers) (told ∷ [])
step_follows_known w (step.End number) told reached section = end_follows w (find (is_timer number) w.timers) (told ∷ [])
step_follows_known w (step.Now moment) told reached section = now_follows w moment (told ∷ [])
step_follows_known w (step.Note event) told reached section = record { answer_is = refl; wakes_are = refl; known_is = refl }
step_follows_known w (step.Fault kind) told reached section = record { answer_is = refl; wakes_are = refl; known_is = refl }
step_follows_known w step.Interrupt told reached section = record { answer_is = refl; wakes_are = refl; known_is = refl }
step_follows_known w (step.Begin limit) told reached section = begin_follows w limit told reached.sound
step_follows_known w step.Wait told reached section = wait_follows w w.round told
step_follows_known w step.Handle told reached section = handle_follows w w.round told reached.sound refl
step_follows_known w step.Finish told reached section = finish_follows w w.round told
step_follows_known w step.React told reached section = absurd section

-- each world that a run reaches is one of which these laws speak
pub run_is_reached : (run : List PolledStep) → Reached (world_of opening run)
run_is_reached run = record { sound = run_is_sound run; listening = (run_waits_for_live run).listeners }

alike_by : (o p : Outcome) (k l : KnownOutcome) → Follows o k → Follows p l → k ≡ l → Alike o p
alike_by o p k l one other same = record {
  answers_are = one.answer_is ∙ ap (λ (k : KnownOutcome). k.answer) same ∙ sym other.answer_is;
  wakes_are = one.wakes_are ∙ ap (λ (k : KnownOutcome). k.wakes) same ∙ sym other.wakes_are;
  known_are = one.known_is ∙ ap (λ (k : KnownOutcome). k.known) same ∙ sym other.known_is;
}

pub steps_alike : (w v : World) (s : Step) (told : PollerAnswer) → Reached w → Reached v → IsSection s → known_of w ≡ known_of v
    → Alike (step_result w s (told ∷ [])) (step_result v s (told ∷ []))
steps_alike w v s told one other section same =
    alike_by _ _ _ _ (step_follows_known w s told one section) (step_follows_known v s told other section) (ap (λ (k : Known). known_step k s told) same)
