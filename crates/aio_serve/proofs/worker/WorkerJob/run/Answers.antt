use Rattle.std.proofs.Common.{ℕ, sym, subst}
use Rattle.std.proofs.lemmas.Result.{IfOk-at_ok, IfOk-weaker}
use Rattle.std.specs.List.{AllZip}
use Rattle.aio_base.specs.ClockBounds.{IsWithin}
use Rattle.aio_serve.specs.Places.{PlaceFits, Terms, WorkerEnds, WorkerValue, latest_of}
use Rattle.aio_serve.specs.Seated.{IsSeated}
use Rattle.aio_serve.proofs.Slots.{ends_so, latest_is_past, places_fit}
use Rattle.aio_serve.proofs.worker.WorkerJob.run.Goals as goal

pub returns : goal.returns
returns g c =
    let thread = c.begin-thread.result.0 in
    let places = c.args.self.places in
    let terms : Terms = record { bounds = g.C.Clock.bounds thread.clock; idle = c.args.self.terms.idle; is_sure = g.N.Faults.is_sure thread.host.member.notifier } in
    let w : WorkerValue = record { parker = thread.parker; terms = terms; sure_of_wait = thread.host.member.claim.sure_of_wait; places = places } in
    let ended = c.run_then_hand_over.result in
    subst (λ (v : WorkerValue). WorkerEnds v ended) (sym c.begin-thread.ensures.thread)
    (ends_so w ended
    (IfOk-weaker ended _ (λ ends. AllZip (PlaceFits terms) places ends.items)
    (λ ends told.
    let at = IfOk-at_ok (λ seats. (start : ℕ) × IsWithin terms.bounds start × AllZip (IsSeated terms.bounds terms.idle start) places seats.slots) told.1 c.begin-thread.ensures.seated in
    places_fit terms at.0 at.1 places told.0.slots ends.items at.2 (told.2 (latest_of terms.bounds.greatest) (latest_is_past terms.bounds)))
    c.run_then_hand_over.ensures.output)
    c.run_then_hand_over.ensures.cause)
