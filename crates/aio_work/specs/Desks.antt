-- A desk: a task beside what it is about, or its answer.
use Rattle.std.specs.Prelude.{◌≡◌, ◌==◌, ◌⊎◌, ℕ, ◌^◌, Bool, true, false}
use Rattle.aio_base.specs.declared.outcomes.Poll.{Poll}
use Rattle.aio_base.specs.declared.outcomes.Poll.TheVariants.{Ready, Pending}
use Rattle.aio_base.specs.declared.tasks.Cx.{Cx}
use Rattle.aio_work.specs.declared.desks.Progress.{Progress}
use Rattle.aio_work.specs.declared.desks.Progress.TheVariants.{Running, Ended}

-- the task is about this, or the answer is one that this allows
abbrev pub is_about : {K O : Type 0} → (about_of : K → ℕ) → (allows : ℕ → O → Bool) → ℕ → Progress K O → Bool
is_about about_of allows about (Running task) = about_of task == about
is_about about_of allows about (Ended output) = allows about output

abbrev pub has_ended : {K O : Type 0} → Progress K O → Bool
has_ended (Running task) = false
has_ended (Ended output) = true

-- what the task of a slot is told: the parker of the thread that polls it, a mask with the bit of the slot alone, and the moment of the thread's own poll
abbrev pub poll_cx : ℕ → ℕ → ℕ → Cx
poll_cx parker slot now = record { parker = parker; mask = 2 ^ slot; now = now }

module _ {H K O : Type 0} (step : K → H → Cx → Poll O → K → H → Type 0) where
  -- what a poll makes of a desk and the host: a task that has not ended is polled once, and an answer takes its place; a desk with an answer stays as it is
  abbrev pub DeskAfter : Cx → Progress K O → H → Progress K O → H → Type 0
  DeskAfter cx (Running task) host (Running after) left = step task host cx Pending after left
  DeskAfter cx (Running task) host (Ended answer) left = (after : K) × step task host cx (Ready answer) after left
  DeskAfter cx (Ended answer) host new left = (new ≡ Ended answer) × (left ≡ host)

  -- The task of some desk was polled once, and had not ended then; or it had, by this poll or before, and then nothing was polled.
  abbrev pub DeskPolled : Cx → (ended : Bool) → H → H → Type 0
  DeskPolled cx false host left = (old new : K) × step old host cx Pending new left
  DeskPolled cx true host left = ((old new : K) × (answer : O) × step old host cx (Ready answer) new left) ⊎ (left ≡ host)
