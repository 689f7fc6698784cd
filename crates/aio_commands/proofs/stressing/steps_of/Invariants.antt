use Rattle.std.proofs.Common.{◌≡◌, ◌+◌, drop}
use Rattle.aio_record.specs.Makers.{steps_in}
use Rattle.aio_commands.proofs.stressing.steps_of.Given as goal

-- with the steps of the cells that are left it is the sum
abbrev pub invariant-loop-cell : goal.invariant-loop-cell
invariant-loop-cell l = l.steps + steps_in (drop l.cell-index l.cells) ≡ steps_in l.cells
