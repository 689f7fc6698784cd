use Rattle.std.proofs.Common.{◌∙◌, sym, ap}
use Rattle.std.proofs.lemmas.List.{take_rest}
use Rattle.aio_base.specs.Lines.{words_in}
use Rattle.aio_trace.proofs.LineWords.{words_past_blank}
use Rattle.aio_trace.proofs.LeadingRuns.{words_past_blanks}
use Rattle.aio_trace.proofs.words.skip_blanks.Goals as goal

pub loop-at-init : goal.loop-at-init
loop-at-init c = words_past_blanks c.args.text.now c.leading_run-at.result c.leading_run-at.ensures.within c.leading_run-at.ensures.same

pub loop-at-preserved : goal.loop-at-preserved
loop-at-preserved c =
    sym (words_past_blank c.args.text.now c.loop-at.at c.loop-at-test.true (sym c.is_blank.ensures ∙ c.if-not-is_blank.false)) ∙ c.loop-at.invariant

pub returns-then-not-is_blank-clause-words : goal.returns-then-not-is_blank-clause-words
returns-then-not-is_blank-clause-words c = ap words_in (take_rest c.args.text.now c.loop-at.at) ∙ c.loop-at.invariant
