-- The numbers of a step tell it.
use Rattle.std.proofs.Common.{◌≡◌, ℕ, Bool, true, false, ◌==◌, if◌then◌else◌, List, [], ◌∷◌, ◌++◌, length, get_or, refl, sym, ap, ◌∙◌}
use Rattle.aio_base.specs.declared.names.Dir.{Dir}
use Rattle.aio_base.specs.declared.names.Dir.TheVariants.{Read, Write, Priority}
use Rattle.aio_base.specs.declared.outcomes.Poll.{Poll}
use Rattle.aio_base.specs.declared.outcomes.Poll.TheVariants.{Ready, Pending}
use Rattle.aio_base.specs.declared.names.Interest.{Interest}
use Rattle.aio_base.specs.World.{directions, has_dir, index_of}
use Rattle.aio_base.proofs.DirectionLemmas.{where_same}
use Rattle.aio_history.specs.declared.steps.CellStep.{CellStep}
use Rattle.aio_history.specs.declared.steps.CellStep.TheVariants as step
use Rattle.aio_history.specs.StepNumbers.{number_of_answer, number_of_flag, step_numbers, numbers_of}

abbrev dir_told : ℕ → Dir
dir_told n = get_or directions n Write

abbrev answer_told : ℕ → Poll (Unit {0})
answer_told n = if n == 0 then Ready tt else Pending

abbrev flag_told : ℕ → Bool
flag_told n = n == 1

abbrev step_told : ℕ → ℕ → ℕ → ℕ → ℕ → ℕ → CellStep
step_told kind a b c d e =
    if kind == 0 then step.Poll (dir_told a) (record { 0 = b }) c (answer_told d)
    else step.Handle (record { read = flag_told d; write = flag_told c; priority = flag_told e }) a b

abbrev steps_told : List ℕ → List CellStep
steps_told (kind ∷ a ∷ b ∷ c ∷ d ∷ e ∷ rest) = step_told kind a b c d e ∷ steps_told rest
steps_told [] = []
steps_told (kind ∷ []) = []
steps_told (kind ∷ a ∷ []) = []
steps_told (kind ∷ a ∷ b ∷ []) = []
steps_told (kind ∷ a ∷ b ∷ c ∷ []) = []
steps_told (kind ∷ a ∷ b ∷ c ∷ d ∷ []) = []

dir_back : (d : Dir) → dir_told (index_of d) ≡ d
dir_back Read = refl
dir_back Write = refl
dir_back Priority = refl

answer_back : (a : Poll (Unit {0})) → answer_told (number_of_answer a) ≡ a
answer_back (Ready done) = refl
answer_back Pending = refl

flag_back : (b : Bool) → flag_told (number_of_flag b) ≡ b
flag_back true = refl
flag_back false = refl

told_back : (steps : List CellStep) → steps_told (numbers_of steps) ≡ steps
told_back [] = refl
told_back (step.Poll dir waker ticker answer ∷ steps) =
    ap (λ d. step.Poll d waker ticker (answer_told (number_of_answer answer)) ∷ steps_told (numbers_of steps)) (dir_back dir)
    ∙ ap (λ a. step.Poll dir waker ticker a ∷ steps_told (numbers_of steps)) (answer_back answer)
    ∙ ap (λ more. step.Poll dir waker ticker answer ∷ more) (told_back steps)
told_back (step.Handle on round taken ∷ steps) =
    ap (λ (on : Interest). step.Handle on round taken ∷ steps_told (numbers_of steps))
    (where_same (λ dir. flag_told (number_of_flag (has_dir on dir))) (has_dir on) (λ dir. flag_back (has_dir on dir)))
    ∙ ap (λ more. step.Handle on round taken ∷ more) (told_back steps)

pub as_many_numbers : (s other : CellStep) → length (step_numbers s) ≡ length (step_numbers other)
as_many_numbers (step.Poll d w t a) (step.Poll e v u b) = refl
as_many_numbers (step.Poll d w t a) (step.Handle on r n) = refl
as_many_numbers (step.Handle on r n) (step.Poll d w t a) = refl
as_many_numbers (step.Handle on r n) (step.Handle of q m) = refl

-- equal notes are notes of equal lists
pub numbers_tell : (steps others : List CellStep) → numbers_of steps ≡ numbers_of others → steps ≡ others
numbers_tell steps others same = sym (told_back steps) ∙ ap steps_told same ∙ told_back others

pub numbers_of-more : (steps : List CellStep) (s : CellStep) → numbers_of (steps ++ s ∷ []) ≡ numbers_of steps ++ step_numbers s
numbers_of-more [] (step.Poll dir waker ticker answer) = refl
numbers_of-more [] (step.Handle on round taken) = refl
numbers_of-more (step.Poll dir waker ticker answer ∷ steps) s =
    ap (λ more. step_numbers (step.Poll dir waker ticker answer) ++ more) (numbers_of-more steps s)
numbers_of-more (step.Handle on round taken ∷ steps) s =
    ap (λ more. step_numbers (step.Handle on round taken) ++ more) (numbers_of-more steps s)
