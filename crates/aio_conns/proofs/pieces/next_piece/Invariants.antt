use Rattle.std.proofs.Common.{◌≡◌}
use Rattle.std.specs.Vec.Iter.{into_iter_items, into_iter_len}
use Rattle.aio_conns.specs.Given.{turns_of}
use Rattle.aio_conns.proofs.pieces.next_piece.Given as goal

abbrev pub invariant-loop-piece : goal.invariant-loop-piece
invariant-loop-piece l = turns_of (into_iter_items l.pieces) ≡ turns_of (into_iter_items l.initial.pieces)

abbrev pub decreases-loop-piece : goal.decreases-loop-piece
decreases-loop-piece l = into_iter_len l.pieces
