use Rattle.std.proofs.Common.{◌≡◌, ◌∙◌, ◌≤◌, ℕ, List, slice_range, ap, arith}
use Rattle.std.proofs.lemmas.Grind.{common_steps}
use Rattle.aio_pairs.specs.Backlogs.{SideState}
use Rattle.aio_pairs.specs.Lines.{lines}
use Rattle.aio_pairs.proofs.BacklogLemmas.{lines-in, lines-are}
use Rattle.aio_pairs.proofs.backlogs.Backlog.lines.Goals as goal

pub slice_bounds-result-end : goal.slice_bounds-result-end
slice_bounds-result-end c =
    let i = c.self.inside in
    let inside : i.lines_end ≤ i.end = lines-in i.buffer.items i.start i.lines_end i.end c.self.invariant.1 (grind (arith, common_steps)) c.self.invariant.3 in
    grind (arith, common_steps, inside)

pub returns : goal.returns
returns c =
    let i = c.self.inside in
    let same : c.as_slice.result.now ≡ i.buffer.items = grind (arith, common_steps) in
    ap (λ (l : List ℕ). slice_range l i.start i.lines_end) same
    ∙ lines-are i.buffer.items i.start i.lines_end i.end c.self.invariant.1 (grind (arith, common_steps)) c.self.invariant.3 ∙ ap (λ (s : SideState). lines s.backlog) c.self.view_is
