-- More nodes, and more buckets.
use Rattle.std.specs.Prelude.{ℕ, ◌≡◌, ◌<◌, ◌≤◌, nat_lt, if◌then◌else◌, List, length, Option, None, Result, MatchResult, slice_index_or}
use Rattle.std.specs.List.{filter_map}
use Rattle.aio_timers.specs.declared.node.Node.{Node}
use Rattle.aio_timers.specs.Held.{Held, held_at, helds, live_of}
use Rattle.aio_timers.specs.Heap.{IsHeap}
use Rattle.aio_timers.specs.Chains.{IsTable, ChainsChange, used_of}
use Rattle.aio_timers.specs.Sound.{registrations, IsSound}

-- buckets of which none leads to a node
abbrev pub IsBlankRow : List (Option ℕ) → Type 0
IsBlankRow buckets = (b : ℕ) → slice_index_or buckets b None ≡ None

-- 1 for a node in use before an index
abbrev pub used_before : ℕ → (ℕ → Held) → ℕ → ℕ
used_before i f j = if nat_lt j i then used_of (f j) else 0

-- the same nodes, with chains from these buckets
pub record Rehashes (old new : List Node) (buckets : List (Option ℕ)) : Type 0 where
  pub change : ChainsChange old new
  pub table : IsTable (held_at new) (length new) buckets (λ j. used_of (held_at new j))

-- free nodes joined the others
pub record Extends (old new : List Node) (free first : Option ℕ) : Type 0 where
  pub longer : length old ≤ length new
  pub heap : (root : Option ℕ) → IsHeap old root free → IsHeap new root first
  pub lives : filter_map live_of (helds new) ≡ filter_map live_of (helds old)
  pub used : (j : ℕ) → used_of (held_at new j) ≡ used_of (held_at old j)
  pub same : (j : ℕ) → 0 < used_of (held_at old j) → held_at new j ≡ held_at old j

-- the registrations stand, and there are so many nodes; or, where memory ran out, as many as before
pub record GrowsTo (old new : List Node) (buckets : List (Option ℕ)) (root first : Option ℕ)
    (used total : ℕ) : Type 0 where
  pub sound : IsSound new buckets root first used
  pub entries : registrations (helds new) ≡ registrations (helds old)
  pub len : length new ≡ total

abbrev pub Grows : List Node → List Node → List (Option ℕ) → Option ℕ → Option ℕ → ℕ → ℕ
    → {E : Type 0} → Result (Option ℕ) E → Type 0
Grows old new buckets root free used total answer =
    MatchResult answer (λ first. GrowsTo old new buckets root first used total)
    (λ _. GrowsTo old new buckets root free used (length old))
