use Rattle.std.proofs.Common.{rules, ◌≡◌, true, sym, ap, ◌∙◌}
use Rattle.std.specs.Result.{is_ok}
use Rattle.std.specs.List.{range_with_len}
use Rattle.aio_words.proofs.Counts.{added}
use Rattle.aio_words.proofs.sleepers.Sleepers.new.Goals as goal

pub loop-parker-preserved : goal.loop-parker-preserved
loop-parker-preserved c = (search rules, (let pushed : is_ok c.push.result ≡ true = search rules in added _ _ _ _ _ pushed c.new.ensures c.push.ensures.items c.loop-parker.invariant.1))

pub invariant_of-result : goal.invariant_of-result
invariant_of-result c = c.loop-parker.invariant.1 ∙ ap (range_with_len 0) (sym c.loop-parker.invariant.0)
