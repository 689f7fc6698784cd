use Rattle.std.proofs.Common.{◌≡◌, List, ◌++◌, length, vec_len}
use Rattle.aio_jobs.specs.Dealing.{GivesInTurn, HaveShares}
use Rattle.aio_jobs.proofs.rows.deal.Given as goal

-- the rows give what was dealt so far, which stands behind what is left
abbrev pub invariant-loop-last : goal.invariant-loop-last
invariant-loop-last g l = record {
  dealt : List g.row.X.Denot;
  items : l.fn.items.items ≡ l.left.items ++ dealt;
  given : GivesInTurn l.rows dealt;
  rows : length l.rows ≡ l.fn.count;
  shares : HaveShares (length dealt) l.fn.count 0 l.rows;
}

abbrev pub decreases-loop-last : goal.decreases-loop-last
decreases-loop-last g l = vec_len l.left
