-- Each column gets its part of the node.
use Rattle.std.proofs.Common.{set, ◌∙◌, arith, length-set, sym}
use Rattle.aio_timers.specs.Columns.{node_of}
use Rattle.aio_timers.proofs.ColumnLemmas.{both-back, entries_within, rows_within, length-back}
use Rattle.aio_timers.proofs.nodes.Nodes.set.Goals as goal

pub offset_bounds-entries-at : goal.offset_bounds-entries-at
offset_bounds-entries-at c =
    let i = c.self.inside in
    omega (arith, c.as_mut_slice-entries.type_inv.1, entries_within i.entries.items c.as_mut_slice-entries.result.now i.rows.items c.args.self.now c.args.at c.self.invariant c.self.view_is c.as_mut_slice-entries.ensures.value c.requires)

pub bounds-entries-at : goal.bounds-entries-at
bounds-entries-at c =
    let i = c.self.inside in
    entries_within i.entries.items c.as_mut_slice-entries.result.now i.rows.items c.args.self.now c.args.at c.self.invariant c.self.view_is c.as_mut_slice-entries.ensures.value c.requires

pub offset_bounds-rows-at : goal.offset_bounds-rows-at
offset_bounds-rows-at c =
    let i = c.self.inside in
    omega (arith, c.as_mut_slice-rows.type_inv.1, rows_within i.entries.items i.rows.items c.as_mut_slice-rows.result.now c.args.self.now c.args.at c.self.invariant c.self.view_is c.as_mut_slice-rows.ensures.value c.requires)

pub bounds-rows-at : goal.bounds-rows-at
bounds-rows-at c =
    let i = c.self.inside in
    rows_within i.entries.items i.rows.items c.as_mut_slice-rows.result.now c.args.self.now c.args.at c.self.invariant c.self.view_is c.as_mut_slice-rows.ensures.value c.requires

pub invariant_of-self : goal.invariant_of-self
invariant_of-self c =
    let i = c.self.inside in
    length-back i.rows c.as_mut_slice-rows.result.now _ c.as_mut_slice-rows.ensures.value c.as_mut_slice-rows.ensures.len (length-set _ _ _) ∙ c.self.invariant ∙ sym (length-back i.entries c.as_mut_slice-entries.result.now _ c.as_mut_slice-entries.ensures.value c.as_mut_slice-entries.ensures.len (length-set _ _ _))

pub returns : goal.returns
returns c =
    let i = c.self.inside in
    both-back i.entries i.rows c.as_mut_slice-entries.result.now c.as_mut_slice-rows.result.now c.args.self.now c.args.at c.entry_of-entry.result c.siblings_of-row.result c.self.view_is
    c.as_mut_slice-entries.ensures.value c.as_mut_slice-entries.ensures.len c.as_mut_slice-rows.ensures.value c.as_mut_slice-rows.ensures.len
    ∙ (λ j. set c.args.self.now c.args.at (node_of (c.entry_of-entry.ensures j) (c.siblings_of-row.ensures j)))
