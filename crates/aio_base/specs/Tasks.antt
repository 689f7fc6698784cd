-- What a poll of a task is told.
use Rattle.std.specs.Prelude.{ℕ, ◌+◌, ◌*◌, ◌%◌, ◌^◌, ◌==◌, if◌then◌else◌}
use Rattle.std.specs.Int.Count.{count_trailing_zeros}

-- the place, from 0, of the lowest bit that is set in a mask of 64 bits, and 0 where none is set
abbrev pub lowest_slot : ℕ → ℕ
lowest_slot mask = if mask == 0 then 0 else count_trailing_zeros 64 mask

-- the waker of the lowest slot that is set, of this parker, as a number below 2^32
abbrev pub own_waker : ℕ → ℕ → ℕ
own_waker parker mask = (64 * parker + lowest_slot mask) % 2 ^ 32
