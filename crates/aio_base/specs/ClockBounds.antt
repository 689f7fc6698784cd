-- The moments that a clock answers.
use Rattle.std.specs.Prelude.{ℕ, ◌≤◌, Option, IfSome}

-- the least and the greatest moment of a clock, each where the clock tells it
pub record ClockBounds : Type 0 where
  pub least : Option ℕ
  pub greatest : Option ℕ

-- a moment lies between the bounds that are told
abbrev pub IsWithin : ClockBounds → ℕ → Type 0
IsWithin bounds moment = IfSome bounds.least (λ least. least ≤ moment) × IfSome bounds.greatest (λ greatest. moment ≤ greatest)
