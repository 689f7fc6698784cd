use Rattle.std.proofs.Common.{sym, ap, ◌∙◌}
use Rattle.std.specs.Int.Count.{count_trailing_zeros}
use Rattle.aio_trace.proofs.LeadingRuns.{others_mask, none_other, first_other}
use Rattle.aio_trace.proofs.runs.run_in_block.Goals as goal

pub returns-then-others-eq0 : goal.returns-then-others-eq0
returns-then-others-eq0 c = none_other c.args.text.now c.args.byte c.requires (sym (others_mask c.args.text.now c.args.byte c.requires) ∙ c.if-others-eq0.true)

pub returns : goal.returns
returns c =
    let mask = others_mask c.args.text.now c.args.byte c.requires in
    ap (count_trailing_zeros 64) mask ∙ first_other c.args.text.now c.args.byte c.requires (λ none. c.if-others-eq0.false (mask ∙ none))
