-- How many steps cells have.
use Rattle.std.proofs.Common.{◌≡◌, ℕ, zero, suc, ◌+◌, ◌*◌, List, [], ◌∷◌, length, refl, sym, ap, ◌∙◌, arith}
use Rattle.std.proofs.lemmas.List.{length-map}
use Rattle.aio_history.specs.declared.steps.CellStep.{CellStep}
use Rattle.aio_history.specs.Histories.{call_of}
use Rattle.aio_history.specs.DrawnCalls.{drawn_calls}
use Rattle.aio_history.proofs.Drawn.{each_for_one}
use Rattle.aio_record.specs.declared.stress_cell.Maker.{Maker}
use Rattle.aio_record.specs.declared.stress_cell.Maker.TheVariants.{First, Second}
use Rattle.aio_record.specs.Makers.{StressValue, HasDrawn, EachHasDrawn, steps_by, steps_in, steps_of}

-- each step is one of the two jobs'
by_both : (makers : List Maker) (steps : List CellStep) → length makers ≡ length steps
    → length steps ≡ length (steps_by First makers steps) + length (steps_by Second makers steps)
by_both [] [] same = refl
by_both [] (s ∷ steps) same = absurd (omega (arith, same))
by_both (m ∷ makers) [] same = absurd (omega (arith, same))
by_both (First ∷ makers) (s ∷ steps) same = let rest = by_both makers steps (omega (arith, same)) in omega (arith, rest)
by_both (Second ∷ makers) (s ∷ steps) same = let rest = by_both makers steps (omega (arith, same)) in omega (arith, rest)

-- how many calls both jobs make on a cell
abbrev for_cell : ℕ → ℕ → ℕ → ℕ
for_cell calls seed cell = length (drawn_calls seed calls cell) + length (drawn_calls (seed + 1) calls cell)

steps_in_cell : (calls seed cell : ℕ) (c : StressValue) → HasDrawn calls seed cell c → length c.cell.steps ≡ for_cell calls seed cell
steps_in_cell calls seed cell c has =
    let one : length (steps_of First c) ≡ length (drawn_calls seed calls cell) = sym (length-map (steps_of First c) call_of) ∙ ap length has.first in
    let two : length (steps_of Second c) ≡ length (drawn_calls (seed + 1) calls cell) = sym (length-map (steps_of Second c) call_of) ∙ ap length has.second in
    omega (arith, by_both c.makers c.cell.steps has.whole.marked, one, two)

abbrev sum_along : (ℕ → ℕ) → ℕ → ℕ → ℕ
sum_along f k zero = 0
sum_along f k (suc n) = f k + sum_along f (suc k) n

summed : (calls seed k : ℕ) (cells : List StressValue) → EachHasDrawn calls seed k cells
    → steps_in cells ≡ sum_along (for_cell calls seed) k (length cells)
summed calls seed k [] has = refl
summed calls seed k (c ∷ cells) has =
    let first = steps_in_cell calls seed k c has.0 in
    let rest = summed calls seed (suc k) cells has.1 in
    omega (arith, first, rest)

of_eight : (calls seed : ℕ) → sum_along (for_cell calls seed) 0 8 ≡ 2 * calls
of_eight calls seed = omega (arith, each_for_one seed calls, each_for_one (seed + 1) calls)

pub all_steps : (calls seed : ℕ) (cells : List StressValue) → length cells ≡ 8 → EachHasDrawn calls seed 0 cells → steps_in cells ≡ 2 * calls
all_steps calls seed cells eight has =
    summed calls seed 0 cells has ∙ ap (λ (n : ℕ). sum_along (for_cell calls seed) 0 n) eight ∙ of_eight calls seed
