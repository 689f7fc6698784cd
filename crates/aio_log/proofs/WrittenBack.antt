-- What is written for a step, for an event and for a count of events is told apart again.
use Rattle.std.proofs.Common.{◌≡◌, ℕ, ◌<◌, ◌≤◌, ◌^◌, Bool, true, false, ◌&&◌, List, ◌++◌, Option, Some, refl, ap, ◌∙◌, arith, decimal, le-leb}
use Rattle.std.specs.Prelude.{bytes_eq, codes, drop, option_and_then, nat_le}
use Rattle.std.proofs.lemmas.Fmt.{digits_decimal, digits_value-decimal, decimal_nonempty}
use Rattle.std.proofs.lemmas.Slice.Eq.{bytes_eq-Decides}
use Rattle.aio_base.specs.declared.names.Event.{Event}
use Rattle.aio_base.specs.declared.steps.Step.{Step}
use Rattle.aio_base.specs.declared.steps.Step.TheVariants as step
use Rattle.aio_base.specs.declared.steps.Answer.TheVariants as answer
use Rattle.aio_base.specs.Lines.{HasSpelling, numeral, step_read, written_line}
use Rattle.aio_base.specs.Script.{wait_room}
use Rattle.aio_base.specs.Text.{answer_line}
use Rattle.aio_base.proofs.FirstLines.{read_is}
use Rattle.aio_trace.proofs.LineNumbers.{numerals, numeral_of_digits}
use Rattle.aio_trace.proofs.WrittenLines.{written_reads}
use Rattle.aio_log.specs.Entries.{got_line, has_entry}
use Rattle.aio_log.specs.Places.{event_of, given_in, noted_in, step_of, when}
use Rattle.aio_log.specs.Written.{EventHasSpelling}

pub itself : (a : List ℕ) → bytes_eq a a ≡ true
itself a = (bytes_eq-Decides a a).1 refl

pub passes : {A : Type 0} (t : Bool) (a : A) → t ≡ true → when t a ≡ Some a
passes true a e = refl
passes false a e = absurd cc

both : (a b : Bool) → a ≡ true → b ≡ true → a && b ≡ true
both a b e f = rw (e, f) refl

pub step_back : (s : Step) → has_entry s ≡ true → HasSpelling s → step_of (written_line s) ≡ Some s
step_back s entered spelled =
    let read : step_read (written_line s) ≡ Some s = read_is s (written_line s) (written_reads s spelled) in
    ap (option_and_then (λ (t : Step). when (has_entry t && bytes_eq (written_line s) (written_line t)) t)) read
    ∙ passes (has_entry s && bytes_eq (written_line s) (written_line s)) s (both _ _ entered (itself (written_line s)))

event_line : (event : Event) → codes "event" ++ drop 3 (got_line event) ≡ written_line (step.Note event)
unfolding written_line
event_line event = refl

pub event_back : (event : Event) → EventHasSpelling event → event_of (got_line event) ≡ Some event
event_back event spelled =
    let line = got_line event in
    let read : step_read (codes "event" ++ drop 3 line) ≡ Some (step.Note event) =
    ap step_read (event_line event) ∙ read_is (step.Note event) (written_line (step.Note event)) (written_reads (step.Note event) spelled) in
    ap (λ (found : Option Step). option_and_then (λ (e : Event). when (bytes_eq line (got_line e)) e) (noted_in found)) read
    ∙ passes (bytes_eq line line) event (itself line)

number_back : (n : ℕ) → n < 2 ^ 64 → numeral (decimal n) ≡ Some n
number_back n top = numeral_of_digits (decimal n) (decimal_nonempty n top) (digits_decimal numerals n top) ∙ ap Some (digits_value-decimal numerals n top)

number_behind : (n : ℕ) → drop 6 (answer_line (answer.Given n)) ≡ decimal n
unfolding answer_line
number_behind n = refl

pub given_back : (n : ℕ) → n ≤ wait_room → given_in (answer_line (answer.Given n)) ≡ Some n
given_back n few =
    let line = answer_line (answer.Given n) in
    ap (λ (found : Option ℕ). option_and_then (λ m. when (nat_le m wait_room && bytes_eq line (answer_line (answer.Given m))) m) found)
    (ap numeral (number_behind n) ∙ number_back n (omega arith))
    ∙ passes (nat_le n wait_room && bytes_eq line line) n (both _ _ (le-leb n wait_room few) (itself line))
