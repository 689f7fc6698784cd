-- The link is written in its column.
use Rattle.std.proofs.Common.{refl, arith, ◌∙◌, length-set}
use Rattle.aio_timers.specs.declared.node.Node.{Node}
use Rattle.aio_timers.specs.declared.nodes.Siblings.{Siblings}
use Rattle.aio_timers.proofs.ColumnLemmas.{row-back, rows_within, length-back}
use Rattle.aio_timers.proofs.nodes.Nodes.set_next.Goals as goal

pub offset_bounds-rows-at : goal.offset_bounds-rows-at
offset_bounds-rows-at c =
    let i = c.self.inside in
    omega (arith, c.as_mut_slice-rows.type_inv.1, rows_within i.entries.items i.rows.items c.as_mut_slice-rows.result.now c.args.self.now c.args.at c.self.invariant c.self.view_is c.as_mut_slice-rows.ensures.value c.requires)

pub bounds-rows-at : goal.bounds-rows-at
bounds-rows-at c =
    let i = c.self.inside in
    rows_within i.entries.items i.rows.items c.as_mut_slice-rows.result.now c.args.self.now c.args.at c.self.invariant c.self.view_is c.as_mut_slice-rows.ensures.value c.requires

pub bounds-rows-at-2 : goal.bounds-rows-at-2
bounds-rows-at-2 c =
    let i = c.self.inside in
    rows_within i.entries.items i.rows.items c.as_mut_slice-rows.result.now c.args.self.now c.args.at c.self.invariant c.self.view_is c.as_mut_slice-rows.ensures.value c.requires

pub invariant_of-self : goal.invariant_of-self
invariant_of-self c =
    let i = c.self.inside in
    length-back i.rows c.as_mut_slice-rows.result.now _ c.as_mut_slice-rows.ensures.value c.as_mut_slice-rows.ensures.len (length-set _ _ _) ∙ c.self.invariant

pub returns : goal.returns
returns c =
    let i = c.self.inside in
    row-back i.entries.items i.rows c.as_mut_slice-rows.result.now c.args.self.now c.args.at c.index-rows-at.result (λ (s : Siblings). record s { next = c.args.link }) (λ (n : Node). record n { next = c.args.link })
    c.self.invariant c.self.view_is c.as_mut_slice-rows.ensures.value c.as_mut_slice-rows.ensures.len c.requires (λ x s. refl)
