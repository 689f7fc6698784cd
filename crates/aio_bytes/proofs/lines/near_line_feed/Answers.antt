use Rattle.std.proofs.Common.{sym, ap, ◌∙◌}
use Rattle.std.specs.Int.Count.{count_trailing_zeros}
use Rattle.aio_bytes.proofs.LineLemmas.{line_feed_mask, none_set, first_set}
use Rattle.aio_bytes.proofs.lines.near_line_feed.Goals as goal

pub returns-then-line_feeds-eq0 : goal.returns-then-line_feeds-eq0
returns-then-line_feeds-eq0 c = none_set c.args.bytes.now c.requires (sym (line_feed_mask c.args.bytes.now c.requires) ∙ c.if-line_feeds-eq0.true)

pub returns : goal.returns
returns c =
    let mask = line_feed_mask c.args.bytes.now c.requires in
    ap (count_trailing_zeros 64) mask ∙ first_set c.args.bytes.now c.requires (λ none. c.if-line_feeds-eq0.false (mask ∙ none))
