use Rattle.std.proofs.Common.{true, false, sym, ◌∙◌}
use Rattle.aio_log.proofs.Spellings.{event_flags, event_found, no_got, not_noted}
use Rattle.aio_log.proofs.reading.event_of.Goals as goal

pub returns-in_default : goal.returns-in_default
returns-in_default c = no_got c.args.line.now (rw c.as_slice.ensures at c.in_default.ensures.cases)

pub returns-in_default-noted_in : goal.returns-in_default-noted_in
returns-in_default-noted_in c =
    not_noted c.args.line.now c.read_line.result
    (record {
      text = c.as_slice-2.result.now;
      places = c.in-Some.places.now;
      text_is = c.as_slice-2.ensures.value ∙ c.in-Ok.ensures;
      places_are = rw c.as_slice.ensures at c.in-Some.ensures.cases.1;
      reads = c.read_line.ensures.step;
    })
    c.in_default-noted_in.ensures

pub is_event-requires : goal.is_event-requires
is_event-requires c =
    event_flags c.args.line.now c.read_line.result c.in-Some-noted_in.event
    (record {
      text = c.as_slice-2.result.now;
      places = c.in-Some.places.now;
      text_is = c.as_slice-2.ensures.value ∙ c.in-Ok.ensures;
      places_are = rw c.as_slice.ensures at c.in-Some.ensures.cases.1;
      reads = c.read_line.ensures.step;
    })
    c.in-Some-noted_in.ensures

pub returns-in-Ok-true : goal.returns-in-Ok-true
returns-in-Ok-true c =
    event_found c.args.line.now c.read_line.result c.in-Some-noted_in.event true
    (record {
      text = c.as_slice-2.result.now;
      places = c.in-Some.places.now;
      text_is = c.as_slice-2.ensures.value ∙ c.in-Ok.ensures;
      places_are = rw c.as_slice.ensures at c.in-Some.ensures.cases.1;
      reads = c.read_line.ensures.step;
    })
    c.in-Some-noted_in.ensures (rw c.as_slice.ensures at c.in-Some.ensures.cases.0) (sym c.in-Ok-true.field-0-test ∙ c.in-Ok-true.ensures)

pub returns-in-Ok-false : goal.returns-in-Ok-false
returns-in-Ok-false c =
    event_found c.args.line.now c.read_line.result c.in-Some-noted_in.event false
    (record {
      text = c.as_slice-2.result.now;
      places = c.in-Some.places.now;
      text_is = c.as_slice-2.ensures.value ∙ c.in-Ok.ensures;
      places_are = rw c.as_slice.ensures at c.in-Some.ensures.cases.1;
      reads = c.read_line.ensures.step;
    })
    c.in-Some-noted_in.ensures (rw c.as_slice.ensures at c.in-Some.ensures.cases.0) (sym c.in-Ok-false.field-0-test ∙ c.in-Ok-false.ensures)
