-- What a word says of a key, and the bits of each step on it.
use Rattle.std.specs.Prelude.{ℕ, Bool, false, not, ◌==◌, ◌+◌, if◌then◌else◌, bit_and}
use Rattle.aio_base.specs.declared.names.Interest.{Interest}
use Rattle.aio_base.specs.declared.names.Dir.{Dir}
use Rattle.aio_base.specs.declared.names.Dir.TheVariants.{Read, Write, Priority}
use Rattle.aio_modes.specs.Interests.{common}

-- a bit of the word is set
abbrev pub has_bit : (word bit : ℕ) → Bool
has_bit word bit = not (bit_and word bit == 0)

-- the directions of which an edge came that no call has used up; of urgent readiness none is kept
abbrev pub edges_in : ℕ → Interest
edges_in word = record { read = has_bit word 1; write = has_bit word 2; priority = false }

-- the directions that are armed
abbrev pub armed_in : ℕ → Interest
armed_in word = record { read = has_bit word 4; write = has_bit word 8; priority = false }

-- what is owed: the directions that are armed and of which an edge came
abbrev pub owed_in : ℕ → Interest
owed_in word = common (armed_in word) (edges_in word)

-- the system told more than edges: an end, an error or urgent data
abbrev pub is_unsure_in : ℕ → Bool
is_unsure_in word = has_bit word 16

-- the bits of reading and of writing, each where it is among these directions
abbrev pub bits_of : (read write : ℕ) → Interest → ℕ
bits_of read write on = (if on.read then read else 0) + (if on.write then write else 0)

-- edges of these directions
abbrev pub edge_bits : Interest → ℕ
edge_bits = bits_of 1 2

-- these directions are armed
abbrev pub armed_bits : Interest → ℕ
armed_bits = bits_of 4 8

-- an edge of one direction
abbrev pub edge_bit : Dir → ℕ
edge_bit Read = 1
edge_bit Write = 2
edge_bit Priority = 0

-- what the system told
abbrev pub told_bits : Interest → Bool → ℕ
told_bits on unsure = if unsure then edge_bits on + 16 else edge_bits on
