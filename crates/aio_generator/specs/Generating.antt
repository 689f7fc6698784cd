-- The steps that an iterator over the steps of a seed has still to give.
use Rattle.std.specs.Prelude.{◌≡◌, ℕ, ◌+◌, ◌*◌, ◌≤◌, ◌<◌, ◌^◌, List, ◌∷◌}
use Rattle.aio_base.specs.declared.steps.Step.{Step}
use Rattle.aio_base.specs.Generated.{Generator, steps_from}

-- what is left: so many steps, from this generator
pub record StepsLeft : Type 0 where
  pub left : ℕ
  pub generator : Generator

abbrev pub steps_left : StepsLeft → List Step
steps_left steps = steps_from steps.left steps.generator

-- so many steps more keep a generator's counts and its moment within their limits
abbrev pub LeavesRoom : ℕ → Generator → Type 0
LeavesRoom more g = (g.state < 2 ^ 48) × (g.listeners + more ≤ 999999) × (g.timers + more ≤ 999999) × (g.moment + 100 * more ≤ 10 ^ 8)

-- the first of the steps that were left went to a taker, with this relation of its state before, the step, its answer and its state after
pub record HandsNext {S A : Type 0} (takes : S → Step → A → S → Type 0) (old : S) (answer : A) (new : S) (before after : List Step) : Type 0 where
  pub step : Step
  pub first : before ≡ step ∷ after
  pub taken : takes old step answer new
