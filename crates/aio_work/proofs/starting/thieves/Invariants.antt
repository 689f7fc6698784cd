use Rattle.std.proofs.Common.{◌≡◌, ◌++◌, ◌≤◌, List, length, map, vec_len, vec_capacity}
use Rattle.std.specs.VecDeque.{deque_len}
use Rattle.aio_turns.specs.declared.entries.TurnEntry.{TurnEntry}
use Rattle.aio_turns.specs.Passes.{DequeId}
use Rattle.aio_work.specs.Starting.{deque_of_thief, sight}
use Rattle.aio_work.proofs.Rotating.{first_of}
use Rattle.aio_work.proofs.starting.thieves.Given as goal

-- the deques with a thief went to the back, in their order
abbrev pub invariant-loop-made : goal.invariant-loop-made
invariant-loop-made l = record {
  left : List (DequeId × List TurnEntry);
  done : List (DequeId × List TurnEntry);
  now : map sight l.owns.items ≡ left ++ done;
  all : done ++ left ≡ map sight l.initial.owns.items;
  thieves : map deque_of_thief l.others.items ≡ map first_of done;
  made : length done ≡ l._made;
  len : deque_len l.owns ≡ deque_len l.initial.owns;
  others : vec_len l.others ≡ l._made;
  room : deque_len l.initial.owns ≤ vec_capacity l.others;
}
