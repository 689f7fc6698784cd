-- Both columns have their part of it.
use Rattle.std.proofs.Common.{arith, refl}
use Rattle.aio_timers.proofs.ColumnLemmas.{rows_within, entries_within, node-told}
use Rattle.aio_timers.proofs.nodes.Nodes.get.Goals as goal

pub index-entry-requires : goal.index-entry-requires
index-entry-requires c =
    let i = c.self.inside in
    omega (arith, i.entries.ok.0, entries_within i.entries.items i.entries.items i.rows.items c.args.self.now c.args.at c.self.invariant c.self.view_is refl c.requires)

pub index-row-requires : goal.index-row-requires
index-row-requires c =
    let i = c.self.inside in
    omega (arith, i.rows.ok.0, rows_within i.entries.items i.rows.items i.rows.items c.args.self.now c.args.at c.self.invariant c.self.view_is refl c.requires)

pub returns : goal.returns
returns c =
    let i = c.self.inside in
    node-told i.entries.items i.rows.items c.args.self.now c.args.at c.index-entry.result.now c.index-row.result.now c.self.invariant c.self.view_is c.requires c.index-entry.ensures c.index-row.ensures
