-- How rounds are counted against the past: the numbers that a reactor remembers in place of it.
use Rattle.std.specs.Prelude.{◌≢◌, ℕ, ◌+◌, nat_le, if◌then◌else◌, List, [], ◌∷◌, max}
use Rattle.aio_base.specs.declared.names.Dir.{Dir}
use Rattle.aio_base.specs.World.{HandledDirection, is_of}

-- how many rounds had begun at or before a position
abbrev pub rounds_at : List ℕ → ℕ → ℕ
rounds_at [] position = 0
rounds_at (begin ∷ begun) position = (if nat_le begin position then 1 else 0) + rounds_at begun position

-- the greatest round that handled an event of a direction, and 0 where none did
abbrev pub last_tick : List ℕ → List HandledDirection → ℕ → Dir → ℕ
last_tick begun [] serial dir = 0
last_tick begun (h ∷ handled) serial dir =
    max (if is_of serial dir h.serial h.dir then rounds_at begun h.begin else 0) (last_tick begun handled serial dir)

-- a position stands among those at which rounds began
abbrev pub HasBegun : ℕ → List ℕ → Type 0
HasBegun position [] = ⊥
HasBegun position (begin ∷ begun) = (begin ≢ position → HasBegun position begun)

-- each handled event belongs to a round that began
abbrev pub AllBegun : List HandledDirection → List ℕ → Type 0
AllBegun [] begun = Unit {0}
AllBegun (h ∷ handled) begun = HasBegun h.begin begun × AllBegun handled begun
