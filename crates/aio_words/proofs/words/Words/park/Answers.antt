use Rattle.std.proofs.Common.{rules, suc, ◌∙◌}
use Rattle.aio_words.proofs.Waking.{looked_again}
use Rattle.aio_words.proofs.words.Words.park.Goals as goal

pub loop-preserved : goal.loop-preserved
loop-preserved g c = let idle = c.loop.invariant.1 in (search rules, (suc idle.0, looked_again _ _ idle.0 _ _ _ idle.1 c.in-Err.ensures.none.1 (c.read.ensures ∙ c.count_in.ensures ∙ c.of.ensures)))
