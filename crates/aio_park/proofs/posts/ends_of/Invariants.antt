use Rattle.std.proofs.Common.{◌≡◌, ◌++◌, Ok, map}
use Rattle.std.specs.VecDeque.{deque_len}
use Rattle.aio_park.specs.Stopping.{IsFirstFault}
use Rattle.aio_park.specs.declared.to_end.WorkerFault.{WorkerFault}
use Rattle.aio_park.proofs.posts.ends_of.Given as goal

-- what is left stands behind the ends so far, and nobody that came so far has a fault
abbrev pub invariant-loop-next : goal.invariant-loop-next
invariant-loop-next g l = record {
  ends : l.fn.ended.items ≡ map Ok l.ends.items ++ l.left.items;
  fault : (fault : WorkerFault) → IsFirstFault l.left.items fault → IsFirstFault l.fn.ended.items fault;
}

abbrev pub decreases-loop-next : goal.decreases-loop-next
decreases-loop-next g l = deque_len l.left
