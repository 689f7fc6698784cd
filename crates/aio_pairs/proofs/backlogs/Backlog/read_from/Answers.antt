use Rattle.std.proofs.Common.{◌≡◌, ◌∙◌, ◌+◌, ◌-◌, ◌<◌, ◌≤◌, ◌++◌, ℕ, Bool, List, [], ap, sym, subst, arith, length, take, drop, slice_range}
use Rattle.std.proofs.lemmas.Grind.{common_steps}
use Rattle.std.proofs.lemmas.List.{take-take, take_at, length-take-le, length-drop}
use Rattle.aio_future.specs.Tries.{bytes_over}
use Rattle.aio_pairs.specs.Backlogs.{SideState, grown}
use Rattle.aio_pairs.specs.Lines.{HasNoLineFeed, lines, unfinished, longest_line}
use Rattle.aio_pairs.proofs.BacklogLemmas.{held-clear, read-behind}
use Rattle.aio_pairs.proofs.backlogs.Backlog.read_from.Goals as goal
use Rattle.aio_pairs.proofs.backlogs.Backlog.read_from.Goals.{After-as_slice}
use Rattle.aio_pairs.proofs.backlogs.Backlog.read_from.Given.{Over}

-- the buffer after the read
is_buffer : (g : Over) (c : After-as_slice g) → c.as_slice.result.now ≡ c.read_behind-tried.new.buffer
is_buffer g c =
    let size : length c.read_behind-tried.new.buffer ≡ c.self.inside.buffer.len = grind (arith, common_steps) in
    c.as_slice.ensures.value ∙ take_at c.read_behind-tried.new.buffer _ c.self.inside.buffer.len size

-- what was held stands at its front
held_first : (g : Over) (c : After-as_slice g)
    → take (c.self.inside.end - c.self.inside.start) c.read_behind-tried.new.buffer ≡ slice_range c.self.inside.buffer.items c.self.inside.start c.self.inside.end
held_first g c =
    let i = c.self.inside in
    let size : i.start + (i.end - i.start) - i.start ≡ i.end - i.start = omega arith in
    c.read_behind-tried.ensures.front ∙ ap (λ (l : List ℕ). slice_range l i.start (i.start + (i.end - i.start))) c.as_mut_slice-buffer.ensures.value
    ∙ ap (λ k. take k (drop i.start i.buffer.items)) size

pub lines_end-self-inside-requires-clause-no_feed : goal.lines_end-self-inside-requires-clause-no_feed
lines_end-self-inside-requires-clause-no_feed g c =
    let i = c.self.inside in
    let held = i.end - i.start in
    let bytes = slice_range i.buffer.items i.start i.end in
    let none : lines bytes ≡ [] = subst (λ (s : SideState). lines s.backlog ≡ []) (sym c.self.view_is) c.requires.written in
    let short : length (unfinished bytes) < longest_line = subst (λ (s : SideState). length (unfinished s.backlog) < longest_line) (sym c.self.view_is) c.requires.short in
    let front : take held (take (held + c.count_of.result) c.as_slice.result.now) ≡ bytes =
    take-take held (held + c.count_of.result) c.as_slice.result.now (omega arith) ∙ ap (take held) (is_buffer g c) ∙ held_first g c in
    subst HasNoLineFeed (sym front) (held-clear bytes none short).1

pub returns-clause-reads : goal.returns-clause-reads
returns-clause-reads g c =
    let i = c.self.inside in
    let there = (goal.at.returns-clause-reads g c).After-as_slice in
    let r = c.read_behind-tried in
    let held = i.end - i.start in
    let n = bytes_over r.result.answer in
    let held_bytes = slice_range i.buffer.items i.start i.end in
    let bytes = take n (drop held r.new.buffer) in
    let room : held + n ≤ length r.new.buffer = grind (arith, common_steps) in
    let side : List ℕ → Bool → SideState = λ backlog ended. record { backlog = backlog; forwarded = i.forwarded; ended = ended } in
    let now = sym c.as_slice.ensures.value ∙ is_buffer g there in
    let all = ap (λ (l : List ℕ). slice_range l 0 (held + c.count_of.result)) now ∙ ap (λ k. slice_range r.new.buffer 0 (held + k)) c.count_of.ensures
    ∙ read-behind r.new.buffer held_bytes held n (held_first g there) in
    record {
      bytes = bytes;
      size = length-take-le n (drop held r.new.buffer) (omega (arith, room, length-drop held r.new.buffer));
      side_is = ap (λ (l : List ℕ). side l c.is_ended-self-inside.result) all ∙ ap (side (held_bytes ++ bytes)) c.is_ended-self-inside.ensures
          ∙ ap (λ (s : SideState). grown s bytes r.result.answer) c.self.view_is;
      call = r.ensures.step;
      tells = r.ensures.told;
    }

pub read_behind-tried-requires-clause-fits : goal.read_behind-tried-requires-clause-fits
read_behind-tried-requires-clause-fits g c = grind (arith, common_steps)
