-- A choice between links.
use Rattle.std.specs.Prelude.{ℕ, Option, None, Some}

-- the second link where the first leads to a node, else the third
abbrev pub kept_if : Option ℕ → Option ℕ → Option ℕ → Option ℕ
kept_if None kept other = other
kept_if (Some _) kept other = kept
