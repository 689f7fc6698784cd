use Rattle.std.proofs.Common.{◌≡◌, ◌∙◌, sym, drop}
use Rattle.aio_log.proofs.Spellings.{count_right, count_wrong, no_given, no_number, too_many}
use Rattle.aio_log.proofs.reading.given_in.Goals as goal

pub returns-in_default : goal.returns-in_default
returns-in_default c = no_given c.args.line.now (rw c.as_slice.ensures at c.in_default.ensures.cases)

pub returns-in_default-number_in : goal.returns-in_default-number_in
returns-in_default-number_in c =
    let behind : c.in-Some.digits.now ≡ drop 6 c.args.line.now = rw c.as_slice.ensures at c.in-Some.ensures.cases.1 in
    no_number c.args.line.now (λ n few is. c.in_default-number_in.ensures n few (behind ∙ is))

pub returns-then-count-gt-WAIT_ROOM : goal.returns-then-count-gt-WAIT_ROOM
returns-then-count-gt-WAIT_ROOM c =
    let behind : c.in-Some.digits.now ≡ drop 6 c.args.line.now = rw c.as_slice.ensures at c.in-Some.ensures.cases.1 in
    too_many c.args.line.now c.in-Some-number_in.count (λ n few is. c.in-Some-number_in.ensures n few (behind ∙ is)) c.if-count-gt-WAIT_ROOM.true

pub returns-in-Ok-true : goal.returns-in-Ok-true
returns-in-Ok-true c =
    count_right c.args.line.now c.in-Some-number_in.count c.if-count-gt-WAIT_ROOM.false (sym c.in-Ok-true.field-0-test ∙ c.in-Ok-true.ensures)

pub returns-in-Ok-false : goal.returns-in-Ok-false
returns-in-Ok-false c =
    let behind : c.in-Some.digits.now ≡ drop 6 c.args.line.now = rw c.as_slice.ensures at c.in-Some.ensures.cases.1 in
    count_wrong c.args.line.now c.in-Some-number_in.count (λ n few is. c.in-Some-number_in.ensures n few (behind ∙ is)) (sym c.in-Ok-false.field-0-test ∙ c.in-Ok-false.ensures)
