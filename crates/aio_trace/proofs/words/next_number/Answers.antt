use Rattle.std.proofs.Common.{◌≡◌, ◌+◌, ◌<◌, ◌∙◌, true, false, get_or, sym, ap, inl, inr, arith, Ok}
use Rattle.std.proofs.lemmas.List.{take_rest}
use Rattle.std.proofs.lemmas.Bool.Decides.{nat_tests}
use Rattle.aio_base.specs.Lines.{is_blank, words_in}
use Rattle.aio_trace.specs.Words.{take_number}
use Rattle.aio_trace.proofs.LineWords.{not_at_first, words_past_blank}
use Rattle.aio_trace.proofs.LineNumbers.{number_at_blank, number_at_end, number_with_other, number_too_great, one_more_digit, one_digit_more}
use Rattle.aio_trace.proofs.LeadingRuns.{zeros_of_number}
use Rattle.aio_trace.proofs.words.next_number.Goals as goal
use Rattle.aio_trace.proofs.words.next_number.Goals.{then-byte-lt48-via-then-byte-lt48, then-byte-lt48-via-else-byte-lt48+then-byte-gt57}

pub loop-at-init : goal.loop-at-init
loop-at-init c =
    let zeros = zeros_of_number c.skip_blanks-text.result.now c.leading_run-at.result c.leading_run-at.ensures.within c.leading_run-at.ensures.same in
    record { digits = zeros.digits; value = zeros.value; small = omega arith }

pub returns-then-is_blank : goal.returns-then-is_blank
returns-then-is_blank c =
    let text = c.skip_blanks-text.result.now in
    let at = c.loop-at.at in
    let inv = c.loop-at.invariant in
    let blank : is_blank (get_or text at 0) ≡ true = sym c.is_blank.ensures ∙ c.if-is_blank.true in
    let some : 0 < at = not_at_first text at c.skip_blanks-text.ensures.first c.loop-at-test.true blank in
    ap (take_number c.args.most) (sym c.skip_blanks-text.ensures.words) ∙ number_at_blank text at c.loop-at.value c.args.most some c.loop-at-test.true inv.digits inv.value inv.small blank
    ∙ ap (λ words. Ok (c.loop-at.value, words)) (words_past_blank text at c.loop-at-test.true blank)
    ∙ ap (λ rest. Ok (c.loop-at.value, words_in rest)) (sym (take_rest text (at + 1)))

pub returns-else-is_blank : goal.returns-else-is_blank
returns-else-is_blank c =
    let text = c.skip_blanks-text.result.now in
    let at = c.loop-at.at in
    let solid : is_blank (get_or text at 0) ≡ false = sym c.is_blank.ensures ∙ c.if-is_blank.false in
    ap (take_number c.args.most) (sym c.skip_blanks-text.ensures.words)
    ∙ number_with_other text at c.args.most c.loop-at-test.true c.loop-at.invariant.digits solid
    (elim c.then-byte-lt48.branch [
      | then-byte-lt48-via-then-byte-lt48 w ↦ inl w.if-byte-lt48.true
      | then-byte-lt48-via-else-byte-lt48+then-byte-gt57 w ↦ inr w.if-byte-gt57.true
    ])

pub returns-then-value-most : goal.returns-then-value-most
returns-then-value-most c =
    let text = c.skip_blanks-text.result.now in
    let at = c.loop-at.at in
    let inv = c.loop-at.invariant in
    let more = one_digit_more text at c.loop-at-test.true c.if-byte-lt48.false c.if-byte-gt57.false in
    ap (take_number c.args.most) (sym c.skip_blanks-text.ensures.words)
    ∙ number_too_great text at c.args.most c.loop-at-test.true (one_more_digit text at c.loop-at-test.true inv.digits c.if-byte-lt48.false c.if-byte-gt57.false)
    (omega (arith, more, inv.value, c.if-value-most.true))

pub loop-at-preserved : goal.loop-at-preserved
loop-at-preserved c =
    let text = c.skip_blanks-text.result.now in
    let at = c.loop-at.at in
    let inv = c.loop-at.invariant in
    let more = one_digit_more text at c.loop-at-test.true c.if-byte-lt48.false c.if-byte-gt57.false in
    record {
      digits = one_more_digit text at c.loop-at-test.true inv.digits c.if-byte-lt48.false c.if-byte-gt57.false;
      value = omega (arith, more, inv.value);
      small = omega (arith, c.if-value-most.false);
    }

pub returns : goal.returns
returns c =
    let text = c.skip_blanks-text.result.now in
    let inv = c.loop-at.invariant in
    ap (take_number c.args.most) (sym c.skip_blanks-text.ensures.words)
    ∙ number_at_end text c.loop-at.at c.loop-at.value c.args.most (grind (arith, nat_tests)) (omega arith) inv.digits inv.value inv.small
