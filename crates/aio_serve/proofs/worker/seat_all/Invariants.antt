use Rattle.std.proofs.Common.{◌≡◌, ◌+◌, ◌≤◌, List, ◌++◌, length}
use Rattle.std.specs.List.{AllZip}
use Rattle.std.specs.VecDeque.{deque_len}
use Rattle.aio_places.specs.Places.{PlaceValue}
use Rattle.aio_serve.specs.Seated.{IsSeated}
use Rattle.aio_serve.proofs.worker.seat_all.Given as goal

-- the places so far have a slot each
abbrev pub invariant-loop-place : goal.invariant-loop-place
invariant-loop-place g l = record {
  seated : List PlaceValue;
  items : l.fn.places.items ≡ seated ++ l.left.items;
  slots : AllZip (IsSeated (g.C.Clock.bounds l.clock) l.idle l.start) seated l.group.slots;
  few : length l.group.slots + deque_len l.left ≤ 64;
  parker : l.group.parker ≡ l.parker;
}

abbrev pub decreases-loop-place : goal.decreases-loop-place
decreases-loop-place g l = deque_len l.left
