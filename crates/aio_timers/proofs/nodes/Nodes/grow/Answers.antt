-- One column tells how many nodes there are.
use Rattle.std.proofs.Common.{List, length, arith, ap}
use Rattle.aio_timers.specs.declared.node.Node.{Node}
use Rattle.aio_timers.specs.declared.nodes.Entry.{Entry}
use Rattle.aio_timers.proofs.ColumnLemmas.{nodes-length}
use Rattle.aio_timers.proofs.nodes.Nodes.grow.Goals as goal

pub overflow_sub-more : goal.overflow_sub-more
overflow_sub-more c =
    let i = c.self.inside in
    omega (arith, c.requires.more, c.len.ensures, nodes-length i.entries.items i.rows.items c.self.invariant, ap (λ (ns : List Node). length ns) c.self.view_is)

pub fill_up-requires-clause-less : goal.fill_up-requires-clause-less
fill_up-requires-clause-less c =
    let i = c.self.inside in
    omega (arith, c.requires.more, nodes-length i.entries.items i.rows.items c.self.invariant, ap (λ (ns : List Node). length ns) c.self.view_is, ap (λ (es : List Entry). length es) c.reserve_exact.ensures.items)

pub returns-clause-len : goal.returns-clause-len
returns-clause-len c = omega (arith, nodes-length c.fill_up.new.entries.items c.fill_up.new.rows.items c.fill_up.ensures.columns, c.fill_up.ensures.len)
