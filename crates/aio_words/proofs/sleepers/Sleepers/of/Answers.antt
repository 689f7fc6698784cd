use Rattle.std.proofs.Common.{rules, ap, ◌∙◌, get_or, vec_len}
use Rattle.aio_words.proofs.Counts.{in_place}
use Rattle.aio_words.proofs.sleepers.Sleepers.of.Goals as goal

pub returns : goal.returns
returns c = let i = c.self.inside in let found = c.index.result.now in
    c.index.ensures ∙ ap (λ counts. get_or counts c.args.parker found) c.self.invariant ∙ in_place (vec_len i.counts) c.args.parker found (search rules)
