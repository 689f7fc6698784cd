use Rattle.std.proofs.Common.{◌≡◌, ◌-◌, ◌+◌, get_or, length, sym, ap, ◌∙◌, arith}
use Rattle.std.proofs.lemmas.Bool.Decides.{nat_tests}
use Rattle.aio_trace.proofs.Bodies.{body_with_return, body_of_other}
use Rattle.aio_trace.proofs.reading.body_of.Goals as goal

pub returns-then-line-last-eq13 : goal.returns-then-line-last-eq13
returns-then-line-last-eq13 c =
    let line = c.args.line.now in
    let long : length line ≡ length line - 1 + 1 = grind (arith, nat_tests) in
    sym (body_with_return line (length line - 1) long c.if-line-last-eq13.true)

pub returns-else-line-last-eq13 : goal.returns-else-line-last-eq13
returns-else-line-last-eq13 c =
    let line = c.args.line.now in
    sym (body_of_other line (λ at long last.
    let place : length line - 1 ≡ at = omega (arith, long) in
    c.if-line-last-eq13.false (ap (λ i. get_or line i 0) place ∙ last)))
