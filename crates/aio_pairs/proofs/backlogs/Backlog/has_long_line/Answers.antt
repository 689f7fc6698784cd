use Rattle.std.proofs.Common.{arith}
use Rattle.std.proofs.lemmas.Grind.{common_steps}
use Rattle.aio_pairs.proofs.BacklogLemmas.{lines-in}
use Rattle.aio_pairs.proofs.backlogs.Backlog.has_long_line.Goals as goal

pub overflow_sub-result : goal.overflow_sub-result
overflow_sub-result c =
    let i = c.self.inside in
    lines-in i.buffer.items i.start i.lines_end i.end c.self.invariant.1 (grind (arith, common_steps)) c.self.invariant.3
