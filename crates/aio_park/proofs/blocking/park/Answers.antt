use Rattle.std.proofs.Common.{ap, ◌∙◌, subst}
use Rattle.aio_words.specs.Calls.{Parks}
use Rattle.aio_words.specs.Seats.{SeatValue}
use Rattle.aio_park.proofs.Gaining.{gains_park}
use Rattle.aio_park.proofs.blocking.park.Goals as goal

pub returns-clause-took : goal.returns-clause-took
returns-clause-took g c =
    gains_park c.args.parker c.park.result c.args.m.now.pass.view c.park.new.p.view
    (subst (λ (p : SeatValue). Parks c.args.parker c.park.result p.view c.park.new.p.view) c.words_pass.ensures.value c.park.ensures.view)

pub returns-clause-parks : goal.returns-clause-parks
returns-clause-parks g c = record {
  parks = subst (λ (p : SeatValue). Parks c.args.parker c.park.result p.view c.park.new.p.view) c.words_pass.ensures.value c.park.ensures.view;
  rest = λ i. record c.args.m.now { pass = record c.park.new.p { words = (c.park.ensures.words ∙ ap (λ (s : SeatValue). s.words) c.words_pass.ensures.value) i } };
}
