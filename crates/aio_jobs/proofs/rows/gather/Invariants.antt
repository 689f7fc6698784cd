use Rattle.std.proofs.Common.{List, ◌++◌}
use Rattle.aio_jobs.specs.Dealing.{GivesInTurn, count_all}
use Rattle.aio_jobs.proofs.rows.gather.Given as goal

-- whatever the rows that are left still give comes behind what was taken
abbrev pub invariant-loop-next : goal.invariant-loop-next
invariant-loop-next g l = (more : List g.row.X.Denot) → GivesInTurn l.left more → GivesInTurn l.fn.rows (l.all.items ++ more)

abbrev pub decreases-loop-next : goal.decreases-loop-next
decreases-loop-next g l = count_all l.left
