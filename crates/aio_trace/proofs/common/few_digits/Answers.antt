use Rattle.std.proofs.Common.{◌+◌, ◌≤◌, ◌∙◌, get_or, take, sym, ap, arith, length-take-le, Ok}
use Rattle.std.proofs.lemmas.List.{take_rest}
use Rattle.std.proofs.lemmas.Bool.Decides.{nat_tests}
use Rattle.aio_base.specs.Lines.{words_in}
use Rattle.aio_trace.proofs.LineNumbers.{few_at_space, few_at_end, small_value, one_more_digit, one_digit_more}
use Rattle.aio_trace.proofs.common.few_digits.Goals as goal

pub returns-then-byte-eq32-clause-read : goal.returns-then-byte-eq32-clause-read
returns-then-byte-eq32-clause-read c = λ most small.
    few_at_space c.args.text.now c.min.result c.loop-at.at c.loop-at.value most (omega arith) small c.if-at-gt0.true c.loop-at-test.true
    c.loop-at.invariant.digits c.loop-at.invariant.value c.if-byte-eq32.true
    ∙ ap (λ rest. Ok (c.loop-at.value, words_in rest)) (sym (take_rest c.args.text.now (c.loop-at.at + 1)))

pub returns-then-byte-eq32-clause-small : goal.returns-then-byte-eq32-clause-small
returns-then-byte-eq32-clause-small c =
    small_value c.args.text.now c.min.result c.loop-at.at c.loop-at.value c.args.digits (omega (arith, length-take-le c.min.result c.args.text.now (omega arith))) (omega arith) c.loop-at.auto.at-end c.loop-at.invariant.digits c.loop-at.invariant.value

pub overflow_mul-value : goal.overflow_mul-value
overflow_mul-value c =
    let small = small_value c.args.text.now c.min.result c.loop-at.at c.loop-at.value 18 (omega (arith, length-take-le c.min.result c.args.text.now (omega arith))) (omega arith) c.loop-at.auto.at-end c.loop-at.invariant.digits c.loop-at.invariant.value in
    omega arith

pub overflow_add-value : goal.overflow_add-value
overflow_add-value c =
    let small = small_value c.args.text.now c.min.result c.loop-at.at c.loop-at.value 18 (omega (arith, length-take-le c.min.result c.args.text.now (omega arith))) (omega arith) c.loop-at.auto.at-end c.loop-at.invariant.digits c.loop-at.invariant.value in
    omega (arith, small, c.if-digit-gt9.false)

pub loop-at-preserved : goal.loop-at-preserved
loop-at-preserved c =
    let front = take c.min.result c.args.text.now in
    let digit = c.if-digit-gt9.false in
    let least : 48 ≤ get_or front c.loop-at.at 0 = omega (arith, digit, c.from.ensures, c.from-in-loop-at.ensures) in
    let most : get_or front c.loop-at.at 0 ≤ 57 = omega (arith, digit, c.from.ensures, c.from-in-loop-at.ensures) in
    let more = one_digit_more front c.loop-at.at c.loop-at-test.true least most in
    record {
      digits = one_more_digit front c.loop-at.at c.loop-at-test.true c.loop-at.invariant.digits least most;
      value = omega (arith, more, c.loop-at.invariant.value, digit, c.from.ensures, c.from-in-loop-at.ensures);
    }

pub returns-clause-read : goal.returns-clause-read
returns-clause-read c = λ most small.
    few_at_end c.args.text.now c.min.result c.loop-at.at c.loop-at.value most (omega arith) c.if-front-text.false small
    (grind (arith, nat_tests)) c.loop-at-test.false c.loop-at.auto.at-end c.loop-at.invariant.digits c.loop-at.invariant.value

pub returns-clause-small : goal.returns-clause-small
returns-clause-small c =
    small_value c.args.text.now c.min.result c.loop-at.at c.loop-at.value c.args.digits (omega (arith, length-take-le c.min.result c.args.text.now (omega arith))) (omega arith) c.loop-at.auto.at-end c.loop-at.invariant.digits c.loop-at.invariant.value
