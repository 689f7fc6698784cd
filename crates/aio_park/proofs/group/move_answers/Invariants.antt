use Rattle.std.proofs.Common.{◌≡◌, ◌++◌, map}
use Rattle.std.specs.Prelude.{vec_capacity}
use Rattle.aio_park.specs.declared.group.Slot.TheVariants.{Ended}
use Rattle.aio_park.proofs.group.move_answers.Given as goal

-- the slots so far have ended with the answers so far, and those that are left come behind them
abbrev pub invariant-loop-slot : goal.invariant-loop-slot
invariant-loop-slot g l = record {
  all : map Ended l.answers.items ++ l.slot-iterator.rest.items ≡ l.fn.slots.items;
  room : vec_capacity l.answers ≡ vec_capacity l.initial.answers;
}
