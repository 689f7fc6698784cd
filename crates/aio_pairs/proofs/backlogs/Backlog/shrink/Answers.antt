use Rattle.std.proofs.Common.{◌≡◌, ◌∙◌, ◌+◌, ◌≤◌, ℕ, List, ap, sym, subst, arith, length, slice_range}
use Rattle.std.proofs.lemmas.Grind.{common_steps}
use Rattle.aio_pairs.specs.Backlogs.{SideState, saturated, shrunk}
use Rattle.aio_pairs.specs.Lines.{lines}
use Rattle.aio_pairs.proofs.BacklogLemmas.{lines-in, lines-shrink}
use Rattle.aio_pairs.proofs.SearchLemmas.{slice-drop}
use Rattle.aio_pairs.proofs.backlogs.Backlog.shrink.Goals as goal
use Rattle.aio_pairs.proofs.backlogs.Backlog.shrink.Goals.{After-saturating_add-self-inside}

in_buffer : (c : After-saturating_add-self-inside) → c.self.inside.end ≤ length c.self.inside.buffer.items
in_buffer c = grind (arith, common_steps)

some : (c : After-saturating_add-self-inside) → c.args.n ≤ length (lines (slice_range c.self.inside.buffer.items c.self.inside.start c.self.inside.end))
some c = subst (λ (s : SideState). c.args.n ≤ length (lines s.backlog)) (sym c.self.view_is) c.requires

fits : (c : After-saturating_add-self-inside) → c.self.inside.start + c.args.n ≤ c.self.inside.end
fits c =
    let i = c.self.inside in
    omega (arith, some c, lines-in i.buffer.items i.start i.lines_end i.end c.self.invariant.1 (in_buffer c) c.self.invariant.3, c.self.invariant.3)

pub invariant_of-self : goal.invariant_of-self
invariant_of-self c =
    let i = c.self.inside in
    let there = (goal.at.invariant_of-self c).After-saturating_add-self-inside in (
      c.self.invariant.0,
      fits there,
      c.self.invariant.2,
      lines-shrink i.buffer.items i.start i.lines_end i.end c.args.n c.self.invariant.1 (in_buffer there) c.self.invariant.3 (some there),
    )

pub returns : goal.returns
returns c =
    let i = c.self.inside in
    let side : ℕ → List ℕ → SideState = λ forwarded backlog. record { backlog = backlog; forwarded = forwarded; ended = i.ended } in
    let counted : c.saturating_add-self-inside.result ≡ saturated (i.forwarded + c.args.n) = grind (arith, common_steps) in
    ap (λ n. side n (slice_range i.buffer.items (i.start + c.args.n) i.end)) counted
    ∙ ap (side (saturated (i.forwarded + c.args.n))) (sym (slice-drop i.buffer.items i.start i.end c.args.n (fits (goal.at.returns c).After-saturating_add-self-inside)))
    ∙ ap (λ (s : SideState). shrunk s c.args.n) c.self.view_is
