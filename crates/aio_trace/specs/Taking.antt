-- What came of a line whose step went to a taker.
use Rattle.std.specs.Prelude.{◌≡◌, ℕ, List, Some, Result, Ok, Err}
use Rattle.aio_base.specs.declared.steps.LineFault.{LineFault}
use Rattle.aio_base.specs.declared.steps.Step.{Step}
use Rattle.aio_base.specs.Lines.{Reads, fault_of}

-- the step that the line reads as went to a taker, with this relation of its state before, the step, its answer and its state after
pub record HandsStep {S A : Type 0} (takes : S → Step → A → S → Type 0) (old : S) (line : List ℕ) (answer : A) (new : S) : Type 0 where
  pub step : Step
  pub reads : Reads step line
  pub taken : takes old step answer new

-- the same, or the line reads as no step, this is its fault, and the taker is as it was
abbrev pub HandsLine : {S A : Type 0} → (S → Step → A → S → Type 0) → S → List ℕ → Result A LineFault → S → Type 0
HandsLine takes old line (Ok answer) new = HandsStep takes old line answer new
HandsLine takes old line (Err fault) new = (fault_of line ≡ Some fault) × (new ≡ old)
