-- Whom a thread wakes that hands over its part of the work.
use Rattle.std.specs.Prelude.{ℕ, ◌*◌, ◌==◌, not, List, map, filter}
use Rattle.std.specs.List.{range_with_len}
use Rattle.aio_base.specs.declared.names.Waker.{Waker}

-- the first slot of a parker
abbrev pub first_slot : ℕ → Waker
first_slot parker = record { 0 = 64 * parker }

-- the first slot of each of so many parkers but this one, in order
abbrev pub first_slots_of : ℕ → ℕ → List Waker
first_slots_of parkers but = filter (λ w. not (w.0 == 64 * but)) (map first_slot (range_with_len 0 parkers))

-- the first slot of each parker but this one, in order: there are at most 16 parkers
abbrev pub first_slots_but : ℕ → List Waker
first_slots_but parker = first_slots_of 16 parker

-- so many slots, from the first one of the first parker on
abbrev pub slots_below : ℕ → List Waker
slots_below n = map (λ w. record { 0 = w }) (range_with_len 0 n)

-- every slot of every parker, in order: there are at most 16 parkers, each of 64 slots
abbrev pub all_slots : List Waker
all_slots = slots_below 1024
