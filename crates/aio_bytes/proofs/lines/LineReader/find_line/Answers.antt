use Rattle.std.proofs.Common.{◌+◌, slice_range, arith}
use Rattle.std.proofs.lemmas.Grind.{common_steps}
use Rattle.aio_bytes.proofs.LineLemmas.{line_at_place, no_line_where_none, slice_range-cut, slice_range-most, take-slice_range}
use Rattle.aio_bytes.proofs.lines.LineReader.find_line.Goals as goal

pub returns-in-Some-clause-found : goal.returns-in-Some-clause-found
returns-in-Some-clause-found c =
    let cuts = line_at_place (slice_range c.as_slice.result.now c.self.inside.start c.self.inside.end) c.in-Some.len c.in-Some.ensures in
    grind (arith, slice_range-cut, cuts)

pub returns-in-Some-clause-first : goal.returns-in-Some-clause-first
returns-in-Some-clause-first c =
    let cuts = line_at_place (slice_range c.as_slice.result.now c.self.inside.start c.self.inside.end) c.in-Some.len c.in-Some.ensures in
    grind (arith, take-slice_range, cuts)

pub returns-in-None-clause-none : goal.returns-in-None-clause-none
returns-in-None-clause-none c =
    let clear = no_line_where_none (slice_range c.as_slice.result.now c.self.inside.start c.self.inside.end) c.in-None.ensures in
    grind (arith, common_steps, clear)

pub returns-in-Some-clause-bound : goal.returns-in-Some-clause-bound
returns-in-Some-clause-bound c = slice_range-most _ (c.self.inside.start + (c.in-Some.len + 1)) c.self.inside.end 257 (omega arith)
