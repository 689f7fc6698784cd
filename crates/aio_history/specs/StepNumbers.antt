-- The numbers by which a note holds steps: as many for each step.
use Rattle.std.specs.Prelude.{ℕ, Bool, true, false, List, [], ◌∷◌, ◌++◌, map}
use Rattle.aio_base.specs.declared.outcomes.Poll.{Poll}
use Rattle.aio_base.specs.declared.outcomes.Poll.TheVariants.{Ready, Pending}
use Rattle.aio_base.specs.World.{directions, has_dir, index_of}
use Rattle.aio_history.specs.declared.steps.CellStep.{CellStep}
use Rattle.aio_history.specs.declared.steps.CellStep.TheVariants as step

abbrev pub number_of_answer : Poll (Unit {0}) → ℕ
number_of_answer (Ready done) = 0
number_of_answer Pending = 1

abbrev pub number_of_flag : Bool → ℕ
number_of_flag false = 0
number_of_flag true = 1

-- of an event a flag for each direction
abbrev pub step_numbers : CellStep → List ℕ
step_numbers (step.Poll dir waker ticker answer) = 0 ∷ index_of dir ∷ waker.0 ∷ ticker ∷ number_of_answer answer ∷ 0 ∷ []
step_numbers (step.Handle on round taken) = 1 ∷ round ∷ taken ∷ map (λ dir. number_of_flag (has_dir on dir)) directions

abbrev pub numbers_of : List CellStep → List ℕ
numbers_of [] = []
numbers_of (s ∷ steps) = step_numbers s ++ numbers_of steps
