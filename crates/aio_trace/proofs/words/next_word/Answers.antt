use Rattle.std.proofs.Common.{◌≡◌, ◌+◌, ◌∷◌, ◌∙◌, true, false, take, get_or, sym, ap, subst, arith}
use Rattle.std.specs.List.{All}
use Rattle.std.proofs.lemmas.List.{take_rest, take_all}
use Rattle.std.proofs.lemmas.List.Elements.{All-more}
use Rattle.std.proofs.lemmas.Bool.Decides.{nat_tests}
use Rattle.aio_base.specs.Lines.{is_blank, words_in}
use Rattle.aio_trace.proofs.LineWords.{words_at_blank, words_of_one, words_past_blank, not_at_first}
use Rattle.aio_trace.proofs.words.next_word.Goals as goal

pub returns-then-is_blank : goal.returns-then-is_blank
returns-then-is_blank c =
    let text = c.skip_blanks-text.result.now in
    let at = c.loop-at.at in
    let blank : is_blank (get_or text at 0) ≡ true = sym c.is_blank.ensures ∙ c.if-is_blank.true in
    sym c.skip_blanks-text.ensures.words
    ∙ words_at_blank text at (not_at_first text at c.skip_blanks-text.ensures.first c.loop-at-test.true blank) c.loop-at-test.true c.loop-at.invariant blank
    ∙ ap (λ words. take at text ∷ words) (words_past_blank text at c.loop-at-test.true blank)
    ∙ ap (λ rest. take at text ∷ words_in rest) (sym (take_rest text (at + 1)))

pub loop-at-preserved : goal.loop-at-preserved
loop-at-preserved c =
    All-more (λ b. is_blank b ≡ false) c.skip_blanks-text.result.now c.loop-at.at 0 c.loop-at-test.true c.loop-at.invariant
    (sym c.is_blank.ensures ∙ c.if-is_blank.false)

pub returns : goal.returns
returns c =
    let text = c.skip_blanks-text.result.now in
    let whole : take c.loop-at.at text ≡ text = take_all c.loop-at.at text (omega arith) in
    sym c.skip_blanks-text.ensures.words ∙ words_of_one text (grind (arith, nat_tests)) (subst (All (λ b. is_blank b ≡ false)) whole c.loop-at.invariant)
