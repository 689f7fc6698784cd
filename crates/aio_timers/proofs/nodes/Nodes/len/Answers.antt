-- One column tells it.
use Rattle.std.proofs.Common.{List, length, arith, ap}
use Rattle.aio_timers.specs.declared.node.Node.{Node}
use Rattle.aio_timers.proofs.ColumnLemmas.{nodes-length}
use Rattle.aio_timers.proofs.nodes.Nodes.len.Goals as goal

pub returns : goal.returns
returns c =
    let i = c.self.inside in
    omega (arith, c.len.ensures, nodes-length i.entries.items i.rows.items c.self.invariant, ap (λ (ns : List Node). length ns) c.self.view_is)
