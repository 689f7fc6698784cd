use Rattle.std.proofs.Common.{◌≡◌, ◌+◌, ◌++◌, ◌≤◌, ℕ, vec_len, vec_capacity}
use Rattle.aio_work.specs.Starting.{numbers}
use Rattle.aio_work.proofs.starting.places.Given as goal

-- the numbers that are left come behind those so far
abbrev pub invariant-loop-place : goal.invariant-loop-place
invariant-loop-place l = record {
  places : (left : ℕ) → left + l.place ≡ l.tasks → l.places.items ++ numbers l.place left ≡ numbers 0 l.tasks;
  len : vec_len l.places ≡ l.place;
  room : l.tasks ≤ vec_capacity l.places;
}
