-- What is written lies in the other column.
use Rattle.std.proofs.Common.{refl, arith, ◌∙◌, length-set, sym}
use Rattle.aio_timers.specs.declared.node.Node.{Node}
use Rattle.aio_timers.specs.declared.nodes.Entry.{Entry}
use Rattle.aio_timers.proofs.ColumnLemmas.{entry-back, entries_within, length-back}
use Rattle.aio_timers.proofs.nodes.Nodes.set_child.Goals as goal

pub offset_bounds-entries-at : goal.offset_bounds-entries-at
offset_bounds-entries-at c =
    let i = c.self.inside in
    omega (arith, c.as_mut_slice-entries.type_inv.1, entries_within i.entries.items c.as_mut_slice-entries.result.now i.rows.items c.args.self.now c.args.at c.self.invariant c.self.view_is c.as_mut_slice-entries.ensures.value c.requires)

pub bounds-entries-at : goal.bounds-entries-at
bounds-entries-at c =
    let i = c.self.inside in
    entries_within i.entries.items c.as_mut_slice-entries.result.now i.rows.items c.args.self.now c.args.at c.self.invariant c.self.view_is c.as_mut_slice-entries.ensures.value c.requires

pub bounds-entries-at-2 : goal.bounds-entries-at-2
bounds-entries-at-2 c =
    let i = c.self.inside in
    entries_within i.entries.items c.as_mut_slice-entries.result.now i.rows.items c.args.self.now c.args.at c.self.invariant c.self.view_is c.as_mut_slice-entries.ensures.value c.requires

pub invariant_of-self : goal.invariant_of-self
invariant_of-self c =
    let i = c.self.inside in
    c.self.invariant ∙ sym (length-back i.entries c.as_mut_slice-entries.result.now _ c.as_mut_slice-entries.ensures.value c.as_mut_slice-entries.ensures.len (length-set _ _ _))

pub returns : goal.returns
returns c =
    let i = c.self.inside in
    entry-back i.entries c.as_mut_slice-entries.result.now i.rows.items c.args.self.now c.args.at c.index-entries-at.result (λ (x : Entry). record x { child = c.args.link }) (λ (n : Node). record n { child = c.args.link })
    c.self.invariant c.self.view_is c.as_mut_slice-entries.ensures.value c.as_mut_slice-entries.ensures.len c.requires (λ x s. refl)
