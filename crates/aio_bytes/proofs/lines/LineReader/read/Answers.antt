use Rattle.std.proofs.Common.{rules, refl, ℕ, List, ◌≡◌, ◌≤◌, ◌+◌, ◌-◌, ◌∙◌, ◌++◌, ap, sym, subst, Ok, take, drop, length, arith}
use Rattle.std.proofs.lemmas.Grind.{common_steps}
use Rattle.std.proofs.lemmas.List.{drop_at, take_at, take-take}
use Rattle.aio_bytes.specs.Held.{Held}
use Rattle.aio_bytes.proofs.LineLemmas.{moved_first, slice_range-front, slice_range-most, slice_range-read}
use Rattle.aio_bytes.proofs.lines.LineReader.read.Goals as goal
use Rattle.aio_bytes.proofs.lines.LineReader.read.Goals.{After-read_behind}
use Rattle.aio_bytes.proofs.lines.LineReader.read.Given.{Over}

-- the buffer after the read
is_buffer : (g : Over) (c : After-read_behind g)
    → take c.self.inside.buffer.len
    (c.read_behind.new.bytes
    ++ drop (length c.read_behind.new.bytes) (take c.self.inside.buffer.len (c.move_to_front.new.bytes ++ drop (length c.move_to_front.new.bytes) c.self.inside.buffer.items)))
    ≡ c.read_behind.new.bytes
is_buffer g c =
    let size : length c.read_behind.new.bytes ≡ c.self.inside.buffer.len = omega arith in
    take_at c.read_behind.new.bytes
    (drop (length c.read_behind.new.bytes) (take c.self.inside.buffer.len (c.move_to_front.new.bytes ++ drop (length c.move_to_front.new.bytes) c.self.inside.buffer.items)))
    c.self.inside.buffer.len size

-- what lay ahead stands at the front of the buffer after the read
held_first : (g : Over) (c : After-read_behind g) → take (c.self.inside.end - c.self.inside.start) c.read_behind.new.bytes ≡ c.args.self.now.ahead
held_first g c =
    let i = c.self.inside in
    let moved = c.move_to_front.new.bytes in
    let size : length moved ≡ i.buffer.len = omega arith in
    moved_first i.buffer.items c.as_mut_slice.result.now moved c.as_mut_slice-2.result.now c.read_behind.new.bytes c.args.self.now.ahead i.start i.end
    c.as_mut_slice.ensures.value c.move_to_front.ensures (c.as_mut_slice-2.ensures.value ∙ take_at moved (drop (length moved) i.buffer.items) i.buffer.len size)
    c.read_behind.ensures.front (ap (λ (h : Held). h.ahead) c.self.view_is)

pub returns-in-Ok-clause-call : goal.returns-in-Ok-clause-call
returns-in-Ok-clause-call g c =
    let held = c.self.inside.end - c.self.inside.start in
    let n = c.in-Ok.n in
    let new = c.read_behind.new.bytes in
    let ahead = c.args.self.now.ahead in
    let piece = take n (drop held new) in
    let there = (goal.at.returns-in-Ok-clause-call g c).After-read_behind in
    let front = held_first g there in
    let room : length c.as_mut_slice-2.result.now - held ≡ 257 - length ahead = grind (arith, common_steps) in
    let all : n ≤ n = omega arith in
    let grown = slice_range-read _ new ahead held n (is_buffer g there) front in
    let same = ap (λ (l : List ℕ). take n (drop (length ahead) l)) grown ∙ ap (take n) (drop_at ahead piece (length ahead) refl) ∙ take-take n n (drop held new) all in
    subst (λ (bytes : List ℕ). g.S.Source.read_step c.args.source.now (257 - length ahead) (Ok bytes) c.read_behind.new.source) (sym same)
    (subst (λ (r : ℕ). g.S.Source.read_step c.args.source.now r (Ok piece) c.read_behind.new.source) room c.in-Ok.ensures.call)

pub returns-in-Ok-clause-ok : goal.returns-in-Ok-clause-ok
returns-in-Ok-clause-ok g c =
    let held = c.self.inside.end - c.self.inside.start in
    let new = c.read_behind.new.bytes in
    let there = (goal.at.returns-in-Ok-clause-ok g c).After-read_behind in
    record {
      piece = take c.in-Ok.n (drop held new);
      ahead = slice_range-read _ new c.args.self.now.ahead held c.in-Ok.n (is_buffer g there) (held_first g there);
      count = grind (arith, common_steps);
      taken = search rules;
      at_end = grind (arith, common_steps);
    }

pub returns-in-Ok-clause-bound : goal.returns-in-Ok-clause-bound
returns-in-Ok-clause-bound g c =
    let held = c.self.inside.end - c.self.inside.start in
    slice_range-most _ 0 (held + c.in-Ok.n) 257 (omega (arith, c.in-Ok.ensures.bound))

pub returns-in-Err-clause-ahead : goal.returns-in-Err-clause-ahead
returns-in-Err-clause-ahead g c =
    let held = c.self.inside.end - c.self.inside.start in
    let there = (goal.at.returns-in-Err-clause-ahead g c).After-read_behind in
    slice_range-front _ c.read_behind.new.bytes c.args.self.now.ahead held (is_buffer g there) (held_first g there)

pub returns-in-Err-clause-bound : goal.returns-in-Err-clause-bound
returns-in-Err-clause-bound g c = slice_range-most _ 0 (c.self.inside.end - c.self.inside.start) 257 (omega arith)
