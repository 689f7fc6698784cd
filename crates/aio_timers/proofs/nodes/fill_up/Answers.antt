-- One more free node.
use Rattle.std.proofs.Common.{◌≡◌, ◌++◌, [], ◌∷◌, ℕ, Some, length, arith, ap, subst, ◌∙◌}
use Rattle.std.proofs.lemmas.List.{length-append}
use Rattle.aio_timers.specs.declared.nodes.Entry.{Entry}
use Rattle.aio_timers.specs.declared.nodes.Siblings.{Siblings}
use Rattle.aio_timers.specs.Held.{free_node}
use Rattle.aio_timers.specs.Columns.{entry_of, siblings_of, nodes_of}
use Rattle.aio_timers.specs.Growth.{Extends}
use Rattle.aio_timers.proofs.ColumnLemmas.{nodes-length, nodes-more}
use Rattle.aio_timers.proofs.GrowthLemmas.{pushed, Extends-trans}
use Rattle.aio_timers.proofs.nodes.fill_up.Goals as goal

pub loop-at-preserved : goal.loop-at-preserved
loop-at-preserved c =
    let es = c.loop-at.entries.items in
    let ss = c.loop-at.rows.items in
    let same : length c.loop-at.rows.items ≡ length c.loop-at.entries.items = omega (arith, c.loop-at.invariant.len, c.loop-at.invariant.columns) in
    let many : length (nodes_of c.loop-at.entries.items c.loop-at.rows.items) ≡ c.loop-at.at = nodes-length es ss same ∙ c.loop-at.invariant.len in
    let n = free_node c.loop-at.first in
    let one : Extends (nodes_of c.loop-at.entries.items c.loop-at.rows.items) (nodes_of c.loop-at.entries.items c.loop-at.rows.items ++ free_node c.loop-at.first ∷ []) c.loop-at.first (Some c.loop-at.at) =
    subst (λ (x : ℕ). Extends (nodes_of c.loop-at.entries.items c.loop-at.rows.items) (nodes_of c.loop-at.entries.items c.loop-at.rows.items ++ free_node c.loop-at.first ∷ []) c.loop-at.first (Some x)) many (pushed (nodes_of es ss) c.loop-at.first) in
    let entries : c.push_reserved.new.self.items ≡ c.loop-at.entries.items ++ entry_of (free_node c.loop-at.first) ∷ [] =
    c.push_reserved.ensures.items ∙ ap (λ (x : Entry). c.loop-at.entries.items ++ x ∷ []) (c.entry_of-entry.ensures ∙ ap entry_of c.free-node.ensures) in
    let rows : c.push_reserved-in-loop-at.new.self.items ≡ c.loop-at.rows.items ++ siblings_of (free_node c.loop-at.first) ∷ [] =
    c.push_reserved-in-loop-at.ensures.items ∙ ap (λ (x : Siblings). c.loop-at.rows.items ++ x ∷ []) (c.siblings_of-row.ensures ∙ ap siblings_of c.free-node.ensures) in
    let items : nodes_of c.push_reserved.new.self.items c.push_reserved-in-loop-at.new.self.items ≡ nodes_of c.loop-at.entries.items c.loop-at.rows.items ++ free_node c.loop-at.first ∷ [] =
    (λ j. nodes_of (entries j) (rows j)) ∙ nodes-more es ss (entry_of n) (siblings_of n) same in
    record {
      extends = rw (items, c.to-first.ensures) (Extends-trans (nodes_of c.args.entries.now.items c.args.rows.now.items) (nodes_of es ss) (nodes_of c.loop-at.entries.items c.loop-at.rows.items ++ free_node c.loop-at.first ∷ []) c.args.free c.loop-at.first (Some c.loop-at.at) c.loop-at.invariant.extends one);
      len = rw entries (omega (arith, length-append es (entry_of n ∷ []), c.loop-at.invariant.len));
      columns = rw rows (omega (arith, length-append ss (siblings_of n ∷ []), c.loop-at.invariant.columns));
      entries_len = omega (arith, c.push_reserved.ensures.len, c.loop-at.invariant.entries_len);
      rows_len = omega (arith, c.push_reserved-in-loop-at.ensures.len, c.loop-at.invariant.rows_len);
      entries_room = omega (arith, c.push_reserved.ensures.capacity, c.loop-at.invariant.entries_room);
      rows_room = omega (arith, c.push_reserved-in-loop-at.ensures.capacity, c.loop-at.invariant.rows_room);
    }
