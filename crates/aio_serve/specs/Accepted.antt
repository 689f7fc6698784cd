-- Connections that a port handed out.
use Rattle.std.specs.Prelude.{◌≡◌, ℕ, ◌≤◌, List, ◌++◌, length, Option, None, Some, ⊤}

-- These connections were handed out in this order: they were the first of those that were told, and the others are still told. What is told stays told, and
-- what is not told stays untold.
abbrev pub HandedOut : {C : Type 0} → Option (List C) → List C → Option (List C) → Type 0
HandedOut None conns None = ⊤
HandedOut None conns (Some left) = ⊥
HandedOut (Some told) conns None = ⊥
HandedOut (Some told) conns (Some left) = told ≡ conns ++ left

-- Connections were handed out, so many at most.
abbrev pub HandedAtMost : {C : Type 0} → ℕ → Option (List C) → Option (List C) → Type 0
HandedAtMost {C} most told left = (conns : List C) × HandedOut told conns left × (length conns ≤ most)
