use Rattle.std.proofs.Common.{◌≡◌, ◌++◌, ◌≤◌, List, length, map, vec_len, vec_capacity}
use Rattle.std.specs.List.{AllZip}
use Rattle.aio_turns.specs.declared.entries.TurnEntry.{TurnEntry}
use Rattle.aio_turns.specs.Passes.{DequeId}
use Rattle.aio_work.specs.Starting.{AreAllOthers, deques_of, sight}
use Rattle.aio_work.proofs.Rotating.{first_of}
use Rattle.aio_work.proofs.starting.thieves_of.Given as goal

-- the deques whose workers have their thieves went to the back, in their order
abbrev pub invariant-loop-made : goal.invariant-loop-made
invariant-loop-made l = record {
  left : List (DequeId × List TurnEntry);
  done : List (DequeId × List TurnEntry);
  now : map sight l.owns.items ≡ left ++ done;
  all : done ++ left ≡ map sight l.initial.owns.items;
  rows : AllZip (λ deque row. AreAllOthers (deques_of l.initial.owns.items) deque row.items) (map first_of done) l.rows.items;
  made : length done ≡ l._made;
  len : vec_len l.rows ≡ l._made;
  room : l.count ≤ vec_capacity l.rows;
}
