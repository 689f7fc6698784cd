-- From how the workers end to the ends of all pairs.
use Rattle.std.proofs.Common.{◌≡◌, ℕ, Bool, List, [], ◌∷◌, ◌++◌, map, sym, ap, ◌∙◌, subst, append_assoc}
use Rattle.std.proofs.lemmas.List.{map-append}
use Rattle.std.specs.Prelude.{IsTrue, Result, Ok, Err, Vec}
use Rattle.std.specs.declared.alloc.Global.{Global}
use Rattle.std.specs.List.{AllZip}
use Rattle.aio_base.specs.ClockBounds.{ClockBounds}
use Rattle.aio_pairs.specs.Fits.{Fits, ToGive}
use Rattle.aio_pairs.specs.declared.outcomes.PairEnd.{PairEnd}
use Rattle.aio_pairs.specs.declared.outcomes.PairEnd.TheVariants as pair
use Rattle.aio_jobs.specs.Dealing.{GivesInTurn}
use Rattle.aio_places.specs.Places.{PlaceValue, end_gives}
use Rattle.aio_park.specs.Stopping.{StopsFor}
use Rattle.aio_serve.specs.Places.{AllServeUnder, PlaceFits, ServesUnder, Terms, WorkerEnds, WorkerValue, earliest_of, latest_of, worker_terms}
use Rattle.aio_park.specs.declared.to_end.WorkerFault.{WorkerFault}
use Rattle.aio_jobs.proofs.Turns.{alike_in_turn}
use Rattle.aio_park.proofs.Stops.{unsure}

-- ## Under the lent devices

fits_lent : (a b : ToGive) (earliest latest idle : ℕ) (lent own : Bool) (end : PairEnd) → (IsTrue lent → IsTrue own)
    → Fits a b earliest latest idle own end → Fits a b earliest latest idle lent end
fits_lent a b earliest latest idle lent own (pair.Ended to_a to_b) twin fits = fits
fits_lent a b earliest latest idle lent own (pair.Idle last now) twin fits = fits
fits_lent a b earliest latest idle lent own (pair.TooLong side at) twin fits = fits
fits_lent a b earliest latest idle lent own (pair.ReadFault f) twin fits = fits
fits_lent a b earliest latest idle lent own (pair.WriteFault f) twin fits = fits
fits_lent a b earliest latest idle lent own (pair.ArmFault f) twin fits = fits
fits_lent a b earliest latest idle lent own (pair.NotifyFault f) twin fits = unsure lent own twin fits
fits_lent a b earliest latest idle lent own pair.OutOfMemory twin fits = tt

place_under : (t : Terms) (sure_of_wait : Bool) (w : WorkerValue) → ServesUnder t sure_of_wait w → (place : PlaceValue) (end : PairEnd)
    → PlaceFits w.terms place end → PlaceFits t place end
place_under t sure_of_wait w under (Ok ends) end fits =
    let a = end_gives ends.0 in
    let b = end_gives ends.1 in
    fits_lent a b (earliest_of t.bounds.least) (latest_of t.bounds.greatest) t.idle t.is_sure w.terms.is_sure end under.thread.notifier
    (subst (λ (i : ℕ). Fits a b (earliest_of t.bounds.least) (latest_of t.bounds.greatest) i w.terms.is_sure end) under.idle
    (subst (λ (known : ClockBounds). Fits a b (earliest_of known.least) (latest_of known.greatest) w.terms.idle w.terms.is_sure end) under.thread.bounds fits))
place_under t sure_of_wait w under (Err fault) end fits = fits

each_under : (t : Terms) (sure_of_wait : Bool) (w : WorkerValue) → ServesUnder t sure_of_wait w → (places : List PlaceValue) (ends : List PairEnd)
    → AllZip (PlaceFits w.terms) places ends → AllZip (PlaceFits t) places ends
each_under t sure_of_wait w under [] [] fit = tt
each_under t sure_of_wait w under [] (end ∷ ends) fit = elim fit [ ]
each_under t sure_of_wait w under (place ∷ places) [] fit = elim fit [ ]
each_under t sure_of_wait w under (place ∷ places) (end ∷ ends) fit =
    (place_under t sure_of_wait w under place end fit.0, each_under t sure_of_wait w under places ends fit.1)

-- ## All workers

rows_fit : (t : Terms) (sure_of_wait : Bool) (workers : List WorkerValue) (ends : List (Vec PairEnd Global))
    → AllServeUnder t sure_of_wait workers → AllZip WorkerEnds workers (map Ok ends)
    → AllZip (AllZip (PlaceFits t)) (map (λ (w : WorkerValue). w.places) workers) (map (λ (row : Vec PairEnd Global). row.items) ends)
rows_fit t sure_of_wait [] [] under all = tt
rows_fit t sure_of_wait [] (row ∷ ends) under all = elim all [ ]
rows_fit t sure_of_wait (w ∷ workers) [] under all = elim all [ ]
rows_fit t sure_of_wait (w ∷ workers) (row ∷ ends) under all =
    (each_under t sure_of_wait w under.0 w.places row.items all.0, rows_fit t sure_of_wait workers ends under.1 all.1)

pub all_fit : (t : Terms) (sure_of_wait : Bool) (places : List PlaceValue) (workers : List WorkerValue) (ended : List (Result (Vec PairEnd Global) WorkerFault))
    (rows : List (Vec PairEnd Global)) (ends : List PairEnd)
    → AllServeUnder t sure_of_wait workers → AllZip WorkerEnds workers ended → ended ≡ map Ok rows
    → GivesInTurn (map (λ (w : WorkerValue). w.places) workers) places → GivesInTurn (map (λ (row : Vec PairEnd Global). row.items) rows) ends
    → AllZip (PlaceFits t) places ends
all_fit t sure_of_wait places workers ended rows ends under all are in_turn told =
    alike_in_turn (PlaceFits t) places ends (map (λ (w : WorkerValue). w.places) workers) (map (λ (row : Vec PairEnd Global). row.items) rows)
    (rows_fit t sure_of_wait workers rows under (subst (AllZip WorkerEnds workers) are all)) in_turn told

pub ends_with_cause : (w : WorkerValue) (fault : WorkerFault) → WorkerEnds w (Err fault) → StopsFor (worker_terms w).sure_of_wait (worker_terms w).is_sure fault
ends_with_cause w fault stops = stops

-- ## One worker more

pub one_more_serves : (t : Terms) (sure_of_wait : Bool) (workers : List WorkerValue) (w : WorkerValue) → AllServeUnder t sure_of_wait workers
    → ServesUnder t sure_of_wait w → AllServeUnder t sure_of_wait (workers ++ w ∷ [])
one_more_serves t sure_of_wait [] w all last = (last, tt)
one_more_serves t sure_of_wait (first ∷ workers) w all last = (all.0, one_more_serves t sure_of_wait workers w all.1 last)

-- the row that a worker has was the first of those that were left
pub row_goes_over : (workers after : List WorkerValue) (w : WorkerValue) (rows left : List (List PlaceValue)) (row : List PlaceValue)
    → after ≡ workers ++ w ∷ [] → w.places ≡ row → rows ≡ row ∷ left
    → map (λ (v : WorkerValue). v.places) workers ++ rows ≡ map (λ (v : WorkerValue). v.places) after ++ left
row_goes_over workers after w rows left row more has are =
    let places = map (λ (v : WorkerValue). v.places) in
    let all : places after ≡ places workers ++ row ∷ [] =
    ap places more ∙ map-append (λ (v : WorkerValue). v.places) workers (w ∷ []) ∙ ap (λ (r : List PlaceValue). places workers ++ r ∷ []) has in
    ap (λ (r : List (List PlaceValue)). places workers ++ r) are ∙ sym (append_assoc (places workers) (row ∷ []) left) ∙ sym (ap (λ (a : List (List PlaceValue)). a ++ left) all)
