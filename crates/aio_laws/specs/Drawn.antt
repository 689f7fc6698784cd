-- How many numbers of listeners, of timers and of registrations were given after a step, and what the poller was told to give or to fail.
use Rattle.std.specs.Prelude.{◌≡◌, ◌⊎◌, ℕ, ◌+◌, true, List, [], ◌∷◌, ◌++◌}
use Rattle.std.specs.List.{Contains}
use Rattle.aio_base.specs.declared.names.Event.{Event}
use Rattle.aio_base.specs.declared.outcomes.Which.TheVariants as which
use Rattle.aio_base.specs.declared.steps.Step.{Step}
use Rattle.aio_base.specs.declared.steps.Step.TheVariants as step
use Rattle.aio_base.specs.declared.steps.Answer.{Answer}
use Rattle.aio_base.specs.declared.steps.Answer.TheVariants as answer
use Rattle.aio_base.specs.declared.outcomes.DueFaults.{DueFaults}
use Rattle.aio_base.specs.World.{Registration, World}

-- one more number of a listener was drawn where a listener is told, and of a timer where a timer is told; so no number is left out
abbrev pub listeners_after : Answer → ℕ → ℕ
listeners_after (answer.Listener number) drawn = drawn + 1
listeners_after _ drawn = drawn

abbrev pub timers_after : Answer → ℕ → ℕ
timers_after (answer.Timer number) made = made + 1
timers_after _ made = made

-- a registration of this id stands among these
abbrev pub HasRegistration : List Registration → ℕ → Type 0
HasRegistration registrations id = (r : Registration) × Contains registrations r × (r.id ≡ id)

-- No id of a registration is drawn, or one is, the next, under which a timer is registered after the step; so no id is left out.
abbrev pub IdsFollow : World → World → Type 0
IdsFollow w v = (v.ids_drawn ≡ w.ids_drawn) ⊎ ((v.ids_drawn ≡ w.ids_drawn + 1) × HasRegistration v.registrations (w.ids_drawn + 1))

-- an event that the poller is to give stands behind those that it was to give before, and no other step of the machine touches them
abbrev pub noted_after : Step → List Event → List Event
noted_after (step.Note event) noted = noted ++ event ∷ []
noted_after _ noted = noted

-- a fault or an interrupt is due once it was asked for
abbrev pub due_after : Step → DueFaults → DueFaults
due_after (step.Fault which.Add) due = record due { add = true }
due_after (step.Fault which.Arm) due = record due { arm = true }
due_after (step.Fault which.Remove) due = record due { remove = true }
due_after (step.Fault which.Wait) due = record due { wait = true }
due_after step.Interrupt due = record due { interrupt = true }
due_after _ due = due

pub record DrawsFollow (w : World) (s : Step) (told : Answer) (v : World) : Type 0 where
  pub listeners : v.listeners_drawn ≡ listeners_after told w.listeners_drawn
  pub timers : v.timers_made ≡ timers_after told w.timers_made
  pub ids : IdsFollow w v
  pub noted : v.noted ≡ noted_after s w.noted
  pub due : v.due ≡ due_after s w.due
