-- Each drawn call is for one source; and the calls of a seed.
use Rattle.std.proofs.Common.{◌≡◌, ℕ, zero, suc, ◌+◌, ◌%◌, ◌<◌, ◌≤◌, ◌^◌, Bool, true, false, ◌==◌, if◌then◌else◌, List, ◌∷◌, length, refl, sym, ap, ◌∙◌, arith, ◌⊎◌, inl, inr}
use Rattle.std.proofs.lemmas.Bool.{cases_lt}
use Rattle.std.proofs.lemmas.Bool.Decides.{nat_tests}
use Rattle.aio_base.specs.Generated.{draw, drawn, next_state, state_after, dir_drawn}
use Rattle.aio_base.specs.declared.names.TheConstants.Interest.{READ_WRITE}
use Rattle.aio_history.specs.declared.steps.CellCall.{CellCall}
use Rattle.aio_history.specs.declared.steps.CellCall.TheVariants as call
use Rattle.aio_history.specs.DrawnCalls.{Drawing, call_drawn, calls_from, drawn_calls, calls_in_all}

-- each call is for one of the cells
count_step : (b : Bool) (c : CellCall) (rest : List CellCall) → length (if b then c ∷ rest else rest) ≡ (if b then 1 else 0) + length rest
count_step true c rest = omega arith
count_step false c rest = omega arith

abbrev one_at : ℕ → ℕ → ℕ
one_at cell k = if cell == k then 1 else 0

one_of_eight : (cell : ℕ) → cell < 8
    → one_at cell 0 + one_at cell 1 + one_at cell 2 + one_at cell 3 + one_at cell 4 + one_at cell 5 + one_at cell 6 + one_at cell 7 ≡ 1
one_of_eight cell bound = grind (arith, nat_tests)

abbrev if_drawn : Bool → Drawing → Drawing → Drawing
if_drawn kind a b = if kind then a else b

cell_within : (kind : Bool) (a b : Drawing) → a.cell < 8 → b.cell < 8 → (if_drawn kind a b).cell < 8
cell_within true a b p q = p
cell_within false a b p q = q

mod_eight : (n : ℕ) → n % 8 < 8
mod_eight n = omega arith

abbrev of_eight : (ℕ → ℕ) → ℕ
of_eight count = count 0 + count 1 + count 2 + count 3 + count 4 + count 5 + count 6 + count 7

sum_step : (one : Drawing) (n : ℕ) → one.cell < 8 → of_eight (λ k. length (calls_from n one.after k)) ≡ n
    → of_eight (λ k. length (if one.cell == k then one.call ∷ calls_from n one.after k else calls_from n one.after k)) ≡ suc n
sum_step one n bound rest =
    let at : (k : ℕ) → length (if one.cell == k then one.call ∷ calls_from n one.after k else calls_from n one.after k) ≡ one_at one.cell k + length (calls_from n one.after k) = λ k. count_step (one.cell == k) one.call (calls_from n one.after k) in
    omega (arith, at 0, at 1, at 2, at 3, at 4, at 5, at 6, at 7, one_of_eight one.cell bound, rest)

all_from : (n state : ℕ) → of_eight (λ k. length (calls_from n state k)) ≡ n
all_from zero state = refl
all_from (suc n) state =
    sum_step (call_drawn state) n
    (cell_within (draw 1 state % 4 == 0) _ _ (mod_eight (draw 0 state)) (mod_eight (draw 0 state)))
    (all_from n (call_drawn state).after)

pub each_for_one : (seed calls : ℕ) → calls_in_all seed calls ≡ calls
each_for_one seed calls = all_from calls seed

abbrev call_behind : ℕ → Drawing
call_behind s =
    let cell = drawn s % 8 in
    if draw 0 s % 4 == 0 then record { cell = cell; call = call.Handle READ_WRITE (draw 1 s % 1000); after = state_after 2 s }
    else record { cell = cell; call = call.Poll (dir_drawn (draw 1 s)) (record { 0 = draw 2 s % 64 }) 0; after = state_after 3 s }

abbrev calls_behind : ℕ → ℕ → ℕ → List CellCall
calls_behind n s cell =
    let one = call_behind s in
    if one.cell == cell then one.call ∷ calls_from n one.after cell else calls_from n one.after cell

-- what is drawn from a state depends on the next one alone
again : (n a b cell : ℕ) → next_state a ≡ next_state b → calls_from n a cell ≡ calls_from n b cell
again zero a b cell same = refl
again (suc n) a b cell same =
    ap (λ (s : ℕ). calls_behind n s cell) same

next_same : next_state (2 ^ 48) ≡ next_state 0
unfolding next_state
next_same = refl

-- a seed of 2^48 gives what 0 gives
by_seed : (seed state n cell : ℕ) → seed ≤ 2 ^ 48 → state ≡ seed % 2 ^ 48 → (seed < 2 ^ 48) ⊎ (2 ^ 48 ≤ seed) → calls_from n state cell ≡ drawn_calls seed n cell
by_seed seed state n cell bound is (inl below) =
    let e : state ≡ seed = omega (arith, is, below) in
    ap (λ (s : ℕ). calls_from n s cell) e
by_seed seed state n cell bound is (inr top) =
    let e : seed ≡ 2 ^ 48 = omega (arith, bound, top) in
    let z : state ≡ 0 = omega (arith, is, e) in
    ap (λ (s : ℕ). calls_from n s cell) z ∙ sym (again n (2 ^ 48) 0 cell next_same) ∙ ap (λ (s : ℕ). calls_from n s cell) (sym e)

pub of_seed : (seed state n cell : ℕ) → seed ≤ 2 ^ 48 → state ≡ seed % 2 ^ 48 → calls_from n state cell ≡ drawn_calls seed n cell
of_seed seed state n cell bound is = by_seed seed state n cell bound is (cases_lt seed (2 ^ 48))
