use Rattle.std.proofs.Common.{◌≡◌, ℕ, ◌+◌, List}
use Rattle.std.specs.Prelude.{Option}
use Rattle.std.specs.VecDeque.{deque_len}
use Rattle.aio_turns.specs.Passes.{ThiefView}
use Rattle.aio_work.specs.Slots.{StealsFrom}
use Rattle.aio_work.proofs.slots.steal_from.Given as goal

-- whatever the looks that are left come to, all looks come to
abbrev pub invariant-loop-look : goal.invariant-loop-look
invariant-loop-look g l = record {
  looks : (left : ℕ) (stolen : Option ℕ) (after : List ThiefView) → left + l._look ≡ deque_len l.initial.others
      → StealsFrom left stolen l.others.items after → StealsFrom (deque_len l.initial.others) stolen l.initial.others.items after;
  len : deque_len l.others ≡ deque_len l.initial.others;
}
