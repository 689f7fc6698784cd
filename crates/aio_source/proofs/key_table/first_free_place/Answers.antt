use Rattle.std.proofs.Common.{◌≡◌, true, length, get_or, None, is_none, not, refl, sym, ap, ◌∙◌, arith}
use Rattle.std.proofs.lemmas.List.Sums.{fails_before_first, position_or_len_is}
use Rattle.std.proofs.lemmas.Option.{slice_get_read, get_or_from_slice_get}
use Rattle.aio_source.proofs.key_table.first_free_place.Goals as goal

pub loop-place-init : goal.loop-place-init
loop-place-init g c = λ k below. fails_before_first is_none c.args.places.now k None (omega arith)

pub returns-then-is_none : goal.returns-then-is_none
returns-then-is_none g c =
    let places = c.args.places.now in
    let k = c.loop-place.place in
    let at : get_or places k None ≡ c.index-places-place.result =
    get_or_from_slice_get places k c.index-places-place.result None
    (slice_get_read places (length places) k c.index-places-place.result refl (omega arith) c.index-places-place.is) in
    let none : is_none (get_or places k None) ≡ true = ap is_none at ∙ ap not c.if-is_none.ensures in
    sym (position_or_len_is is_none places k None (omega arith) c.loop-place.invariant (λ within. none))

pub returns : goal.returns
returns g c =
    sym (position_or_len_is is_none c.args.places.now (length c.args.places.now) None (omega arith) (λ k below. c.loop-place.invariant k (omega arith)) (λ within. absurd (omega arith)))
