use Rattle.std.proofs.Common.{◌≡◌, ◌++◌, ◌≤◌, List}
use Rattle.std.specs.Prelude.{vec_len, vec_capacity}
use Rattle.std.specs.List.{AllByRecursion}
use Rattle.aio_work.specs.Slots.{nothing}
use Rattle.aio_work.specs.declared.slots.Held.{Held}
use Rattle.aio_work.proofs.slots.fill.Given as goal

-- the slots so far end in free ones
abbrev pub invariant-loop-missing : goal.invariant-loop-missing
invariant-loop-missing l = record {
  free : List Held;
  all : l.slots.items ≡ l.initial.slots.items ++ free;
  are_free : AllByRecursion (λ (h : Held). h ≡ nothing) free;
  len : vec_len l.slots ≡ l._missing;
  room : 64 ≤ vec_capacity l.slots;
}
