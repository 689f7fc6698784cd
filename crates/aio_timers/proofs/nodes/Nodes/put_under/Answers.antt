-- The links of the node and of its sibling are written in one column, and that of the parent in the other.
use Rattle.std.proofs.Common.{arith, rules, length-set, ◌∙◌, sym}
use Rattle.aio_timers.proofs.ColumnLemmas.{rows_within, behind-inside, set-within, under-back, entries_within, length-back}
use Rattle.aio_timers.proofs.nodes.Nodes.put_under.Goals as goal

pub offset_bounds-entries-parent : goal.offset_bounds-entries-parent
offset_bounds-entries-parent c =
    let i = c.self.inside in
    omega (arith, c.as_mut_slice-entries.type_inv.1, entries_within i.entries.items c.as_mut_slice-entries.result.now i.rows.items c.args.self.now c.args.parent c.self.invariant c.self.view_is c.as_mut_slice-entries.ensures.value c.requires.parent)

pub bounds-entries-parent : goal.bounds-entries-parent
bounds-entries-parent c =
    let i = c.self.inside in
    entries_within i.entries.items c.as_mut_slice-entries.result.now i.rows.items c.args.self.now c.args.parent c.self.invariant c.self.view_is c.as_mut_slice-entries.ensures.value c.requires.parent

pub bounds-entries-parent-2 : goal.bounds-entries-parent-2
bounds-entries-parent-2 c =
    let i = c.self.inside in
    entries_within i.entries.items c.as_mut_slice-entries.result.now i.rows.items c.args.self.now c.args.parent c.self.invariant c.self.view_is c.as_mut_slice-entries.ensures.value c.requires.parent

pub offset_bounds-rows-at : goal.offset_bounds-rows-at
offset_bounds-rows-at c =
    let i = c.self.inside in
    omega (arith, c.as_mut_slice-rows.type_inv.1, rows_within i.entries.items i.rows.items c.as_mut_slice-rows.result.now c.args.self.now c.args.at c.self.invariant c.self.view_is c.as_mut_slice-rows.ensures.value c.requires.here)

pub bounds-rows-at : goal.bounds-rows-at
bounds-rows-at c =
    let i = c.self.inside in
    rows_within i.entries.items i.rows.items c.as_mut_slice-rows.result.now c.args.self.now c.args.at c.self.invariant c.self.view_is c.as_mut_slice-rows.ensures.value c.requires.here

pub bounds-rows-at-2 : goal.bounds-rows-at-2
bounds-rows-at-2 c =
    let i = c.self.inside in
    rows_within i.entries.items i.rows.items c.as_mut_slice-rows.result.now c.args.self.now c.args.at c.self.invariant c.self.view_is c.as_mut_slice-rows.ensures.value c.requires.here

pub offset_bounds-rows-behind : goal.offset_bounds-rows-behind
offset_bounds-rows-behind c =
    let i = c.self.inside in
    omega (
      arith,
      c.as_mut_slice-rows.type_inv.1,
      rows_within i.entries.items i.rows.items c.as_mut_slice-rows.result.now c.args.self.now c.leads_or-behind.result c.self.invariant c.self.view_is c.as_mut_slice-rows.ensures.value
          (behind-inside i.entries.items c.as_mut_slice-entries.result.now i.rows.items c.args.self.now c.args.parent c.args.at c.leads_or-behind.result c.index-entries-parent.result c.self.invariant c.self.view_is c.as_mut_slice-entries.ensures.value c.requires.parent c.requires.here c.requires.first c.leads_or-behind.ensures),
    )

pub bounds-rows-behind : goal.bounds-rows-behind
bounds-rows-behind c =
    let i = c.self.inside in
    set-within c.as_mut_slice-rows.result.now c.args.at c.leads_or-behind.result _ (rows_within i.entries.items i.rows.items c.as_mut_slice-rows.result.now c.args.self.now c.leads_or-behind.result c.self.invariant c.self.view_is c.as_mut_slice-rows.ensures.value
    (behind-inside i.entries.items c.as_mut_slice-entries.result.now i.rows.items c.args.self.now c.args.parent c.args.at c.leads_or-behind.result c.index-entries-parent.result c.self.invariant c.self.view_is c.as_mut_slice-entries.ensures.value c.requires.parent c.requires.here c.requires.first c.leads_or-behind.ensures))

pub bounds-rows-behind-2 : goal.bounds-rows-behind-2
bounds-rows-behind-2 c =
    let i = c.self.inside in
    set-within c.as_mut_slice-rows.result.now c.args.at c.leads_or-behind.result _ (rows_within i.entries.items i.rows.items c.as_mut_slice-rows.result.now c.args.self.now c.leads_or-behind.result c.self.invariant c.self.view_is c.as_mut_slice-rows.ensures.value
    (behind-inside i.entries.items c.as_mut_slice-entries.result.now i.rows.items c.args.self.now c.args.parent c.args.at c.leads_or-behind.result c.index-entries-parent.result c.self.invariant c.self.view_is c.as_mut_slice-entries.ensures.value c.requires.parent c.requires.here c.requires.first c.leads_or-behind.ensures))

pub offset_bounds-rows-at-2 : goal.offset_bounds-rows-at-2
offset_bounds-rows-at-2 c =
    let i = c.self.inside in
    omega (arith, c.as_mut_slice-rows.type_inv.1, rows_within i.entries.items i.rows.items c.as_mut_slice-rows.result.now c.args.self.now c.args.at c.self.invariant c.self.view_is c.as_mut_slice-rows.ensures.value c.requires.here)

pub bounds-rows-at-3 : goal.bounds-rows-at-3
bounds-rows-at-3 c =
    let i = c.self.inside in
    simp length-set (rows_within i.entries.items i.rows.items c.as_mut_slice-rows.result.now c.args.self.now c.args.at c.self.invariant c.self.view_is c.as_mut_slice-rows.ensures.value c.requires.here)

pub bounds-rows-at-4 : goal.bounds-rows-at-4
bounds-rows-at-4 c =
    let i = c.self.inside in
    simp length-set (rows_within i.entries.items i.rows.items c.as_mut_slice-rows.result.now c.args.self.now c.args.at c.self.invariant c.self.view_is c.as_mut_slice-rows.ensures.value c.requires.here)

pub offset_bounds-entries-parent-2 : goal.offset_bounds-entries-parent-2
offset_bounds-entries-parent-2 c =
    let i = c.self.inside in
    omega (arith, c.as_mut_slice-entries.type_inv.1, entries_within i.entries.items c.as_mut_slice-entries.result.now i.rows.items c.args.self.now c.args.parent c.self.invariant c.self.view_is c.as_mut_slice-entries.ensures.value c.requires.parent)

pub bounds-entries-parent-3 : goal.bounds-entries-parent-3
bounds-entries-parent-3 c =
    let i = c.self.inside in
    entries_within i.entries.items c.as_mut_slice-entries.result.now i.rows.items c.args.self.now c.args.parent c.self.invariant c.self.view_is c.as_mut_slice-entries.ensures.value c.requires.parent

pub bounds-entries-parent-4 : goal.bounds-entries-parent-4
bounds-entries-parent-4 c =
    let i = c.self.inside in
    entries_within i.entries.items c.as_mut_slice-entries.result.now i.rows.items c.args.self.now c.args.parent c.self.invariant c.self.view_is c.as_mut_slice-entries.ensures.value c.requires.parent

pub invariant_of-self : goal.invariant_of-self
invariant_of-self c =
    let i = c.self.inside in
    length-back i.rows c.as_mut_slice-rows.result.now _ c.as_mut_slice-rows.ensures.value c.as_mut_slice-rows.ensures.len (length-set _ _ _ ∙ length-set _ _ _ ∙ length-set _ _ _) ∙ c.self.invariant ∙ sym (length-back i.entries c.as_mut_slice-entries.result.now _ c.as_mut_slice-entries.ensures.value c.as_mut_slice-entries.ensures.len (length-set _ _ _))

pub to-requires : goal.to-requires
to-requires c = search rules

pub to-requires-2 : goal.to-requires-2
to-requires-2 c = search rules

pub to-requires-3 : goal.to-requires-3
to-requires-3 c = search rules

pub returns : goal.returns
returns c =
    let i = c.self.inside in
    under-back i.entries i.rows c.as_mut_slice-entries.result.now c.as_mut_slice-rows.result.now c.args.self.now c.args.parent c.args.at c.leads_or-behind.result c.index-entries-parent-2.result c.index-entries-parent.result c.index-rows-at.result c.index-rows-behind.result c.index-rows-at-2.result
    c.to.result c.to-2.result c.to-3.result c.self.invariant c.self.view_is c.as_mut_slice-entries.ensures.value c.as_mut_slice-entries.ensures.len c.as_mut_slice-rows.ensures.value c.as_mut_slice-rows.ensures.len c.requires.parent c.requires.here c.requires.first
    c.leads_or-behind.ensures c.to.ensures c.to-2.ensures c.to-3.ensures
