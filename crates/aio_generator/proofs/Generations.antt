-- One step of a generator.
use Rattle.std.proofs.Common.{◌≡◌, ◌≢◌, ℕ, zero, suc, ◌-◌, ◌<◌, ◌%◌, [], ◌∷◌, length, refl, sym, ap, ◌∙◌, arith}
use Rattle.aio_base.specs.declared.steps.Step.{Step}
use Rattle.aio_base.specs.Generated.{Generator, Generated, drawn, generated_of, next_state, steps_from}
use Rattle.aio_generator.specs.Generating.{StepsLeft, steps_left}

abbrev generated_next : ℕ → Generator → ℕ → Generated
generated_next kind g state = generated_of (kind % 16) (record g { state = state })

-- a step was given and one less is left
pub one_given : (left : ℕ) (g : Generator) (kind state : ℕ) (s : Step) (rest : StepsLeft) → (left ≡ 0 → ⊥) → kind ≡ drawn (next_state g.state) → state ≡ next_state g.state → rest.left ≡ left - 1
    → s ≡ (generated_of (kind % 16) (record g { state = state })).step → rest.generator ≡ (generated_of (kind % 16) (record g { state = state })).after
    → steps_left (record { left = left; generator = g }) ≡ s ∷ steps_left rest
one_given zero g kind state s rest some kind_is state_is left_is step_is after_is = absurd (some refl)
one_given (suc k) g kind state s rest some kind_is state_is left_is step_is after_is =
    let one = generated_next (drawn (next_state g.state)) g (next_state g.state) in
    let same : generated_next kind g state ≡ one = ap (λ kind. generated_next kind g state) kind_is ∙ ap (generated_next (drawn (next_state g.state)) g) state_is in
    let same_step : s ≡ one.step = step_is ∙ ap (λ (o : Generated). o.step) same in
    let same_after : rest.generator ≡ one.after = after_is ∙ ap (λ (o : Generated). o.after) same in
    let fewer : rest.left ≡ k = omega (arith, left_is) in
    sym (ap (λ s. s ∷ steps_left rest) same_step ∙ ap (λ n. one.step ∷ steps_from n rest.generator) fewer ∙ ap (λ after. one.step ∷ steps_from k after) same_after)

pub fewer_left : (old new : StepsLeft) (s : Step) → steps_left old ≡ s ∷ steps_left new → length (steps_left new) < length (steps_left old)
fewer_left old new s e = let long = ap length e in omega arith

some_from : (n : ℕ) (g : Generator) → 0 < n → steps_from n g ≢ []
some_from zero g above = absurd (omega arith)
some_from (suc n) g above = λ none. absurd cc

from_some : (n : ℕ) (g : Generator) → steps_from n g ≢ [] → 0 < n
from_some zero g some = absurd (some refl)
from_some (suc n) g some = omega arith

-- steps are left exactly where their number is above 0
pub some_left : (steps : StepsLeft) → 0 < steps.left → steps_left steps ≢ []
some_left steps above = some_from steps.left steps.generator above

pub left_some : (steps : StepsLeft) → steps_left steps ≢ [] → 0 < steps.left
left_some steps some = from_some steps.left steps.generator some
