-- A clock in memory.
use Rattle.std.specs.Prelude.{ℕ, ◌+◌, ◌-◌, List, Some, length, min, slice_index_or}
use Rattle.aio_base.specs.ClockBounds.{ClockBounds}

-- the moments in order, and which of them comes next
pub record ClockValue : Type 0 where
  pub moments : List ℕ
  pub next : ℕ

-- which of the moments
abbrev pub moment_at : List ℕ → ℕ → ℕ
moment_at moments n = slice_index_or moments n 0

-- the first moment and the last
abbrev pub bounds_of : List ℕ → ClockBounds
bounds_of moments = record { least = Some (moment_at moments 0); greatest = Some (moment_at moments (length moments - 1)) }

-- after one more answer: the last moment comes again
abbrev pub after_look : ClockValue → ClockValue
after_look clock = record clock { next = min (clock.next + 1) (length clock.moments - 1) }
