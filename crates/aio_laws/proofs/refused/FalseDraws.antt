-- Numbers and events that a wrong machine leaves out, each refused by the law of what a step draws and notes.
use Rattle.std.proofs.Common.{◌≡◌, ◌<◌, ◌+◌, ℕ, true, false, [], ◌∷◌, None, Some, ap, sym, ⊎_elim, arith}
use Rattle.aio_base.specs.declared.names.Dir.TheVariants.{Read}
use Rattle.aio_base.specs.declared.steps.Step.TheVariants as step
use Rattle.aio_base.specs.declared.steps.Answer.TheVariants as answer
use Rattle.aio_base.specs.declared.outcomes.DueFaults.{DueFaults}
use Rattle.aio_base.specs.World.{World, opening}
use Rattle.aio_laws.specs.Drawn.{HasRegistration, IdsFollow, DrawsFollow}
use Rattle.aio_laws.proofs.refused.FalseNotes.{key, readable, task, waiting}
use Rattle.aio_base.proofs.Membership.{none_is_in}

apart : (m n : ℕ) → m < n → m ≡ n → ⊥
apart m n less same = absurd (omega arith)

-- a `now` draws numbers of timers: the next timer is told a number that nobody can expect
pub a_number_left_out_is_refused : DrawsFollow opening (step.Now 5) (answer.At 5) (record opening { pos = 1; now = 5; timers_made = 7 }) → ⊥
a_number_left_out_is_refused d = apart 0 7 (omega arith) (sym d.timers)

-- a listener is told and its number is not counted: the next one is told the same
pub a_number_that_is_not_counted_is_refused : DrawsFollow waiting (step.New (key 0) Read) (answer.Listener 1) (record waiting { pos = 5 }) → ⊥
a_number_that_is_not_counted_is_refused d = apart 0 1 (omega arith) d.listeners

-- an event is told noted, and is lost: no wait gives it
pub an_event_that_is_told_noted_and_lost_is_refused : DrawsFollow waiting (step.Note (readable 0)) answer.Noted (record waiting { pos = 5 }) → ⊥
an_event_that_is_told_noted_and_lost_is_refused d = let wrong = d.noted in cc

-- an interrupt is told noted, and is not due
pub an_interrupt_that_is_not_due_is_refused : DrawsFollow opening step.Interrupt answer.Noted (record opening { pos = 1 }) → ⊥
an_interrupt_that_is_not_due_is_refused d = let wrong : false ≡ true = ap (λ (due : DueFaults). due.interrupt) d.due in cc

-- a timer that waits for 50, registered under this id
abbrev timed : ℕ → World
timed id = record opening {
  pos = 1;
  registrations = record { id = id; deadline = 50; waker = task 7 } ∷ [];
  ids_drawn = id;
  timers = record { number = 1; deadline = Some 50; period = None; id = Some id; kept = Some (task 7) } ∷ [];
  timers_made = 1;
}

-- a number of ids that is neither the same nor one more
left_out : (w v : World) → w.ids_drawn + 1 < v.ids_drawn → IdsFollow w v → ⊥
left_out w v more follows =
    ⊎_elim (λ (same : v.ids_drawn ≡ w.ids_drawn). omega arith)
    (λ (next : (v.ids_drawn ≡ w.ids_drawn + 1) × HasRegistration v.registrations (w.ids_drawn + 1)). let one = next.0 in omega arith) follows

-- a timer that is set is registered under the next id but one
pub an_id_left_out_is_refused : DrawsFollow (timed 1) (step.SetAt 1 50) answer.Set (record (timed 3) { pos = 2 }) → ⊥
an_id_left_out_is_refused d = left_out (timed 1) (record (timed 3) { pos = 2 }) (omega arith) d.ids

-- a `now` draws an id, and no timer is registered under it
pub an_id_of_no_registration_is_refused : DrawsFollow opening (step.Now 5) (answer.At 5) (record opening { pos = 1; now = 5; ids_drawn = 1 }) → ⊥
an_id_of_no_registration_is_refused d =
    ⊎_elim (λ (same : 1 ≡ 0). apart 0 1 (omega arith) (sym same))
    (λ (next : (1 ≡ 0 + 1) × HasRegistration [] (0 + 1)). none_is_in next.1.0 next.1.1) d.ids
