-- A half of a poller in memory that waits, and answers by a script.
use Rattle.std.specs.Prelude.{◌≡◌, ℕ, List, [], ◌∷◌, Result, Ok, Err, length, take, drop, is_ok, if◌then◌else◌}
use Rattle.aio_base.specs.Devices.{WaitCall, raised}
use Rattle.aio_base.specs.declared.names.Event.{Event}
use Rattle.aio_base.specs.declared.outcomes.Failed.{Failed}
use Rattle.aio_base.specs.declared.outcomes.Waited.{Waited}
use Rattle.aio_base.specs.declared.outcomes.Waited.TheVariants.{Given, Interrupted}
use Rattle.aio_devices.specs.declared.scripted.WaitAnswer.{WaitAnswer}
use Rattle.aio_devices.specs.declared.scripted.WaitAnswer.TheVariants.{Gives, Fails}
use Rattle.aio_devices.specs.declared.scripted.WaitAnswer.TheVariants as answered

-- the answers that are left of the script, how many waits there were, and how many of these failed
pub record AnswerWaits : Type 0 where
  pub left : List WaitAnswer
  pub waits : ℕ
  pub faults : ℕ

-- what a wait comes to with such answers left: the first of them, or no event
abbrev pub ComesTo : List WaitAnswer → ℕ → Result Waited Failed → List Event → Type 0
ComesTo [] room answer added = (answer ≡ Ok (Given 0)) × (added ≡ [])
ComesTo (Gives events ∷ left) room answer added = (answer ≡ Ok (Given (length added))) × (added ≡ take room events.items)
ComesTo (answered.Interrupted ∷ left) room answer added = (answer ≡ Ok Interrupted) × (added ≡ [])
ComesTo (Fails ∷ left) room answer added = (answer ≡ Err (record {})) × (added ≡ [])

-- the relation of a wait: it comes to the first answer that is left, which is left no longer
pub record WaitsByAnswers (old : AnswerWaits) (call : WaitCall) (answer : Result Waited Failed) (added : List Event) (new : AnswerWaits) : Type 0 where
  pub comes : ComesTo old.left call.room answer added
  pub left : new.left ≡ drop 1 old.left
  pub waits : new.waits ≡ raised old.waits
  pub faults : new.faults ≡ (if is_ok answer then old.faults else raised old.faults)
