-- Why threads stop, and which fault is told of several.
use Rattle.std.proofs.Common.{◌≡◌, Bool, true, false, List, [], ◌∷◌, Result, Ok, Err, refl, sym, ◌∙◌, subst, inl, inr}
use Rattle.std.specs.Prelude.{IsTrue}
use Rattle.std.specs.List.{AllByRecursion, AllZip}
use Rattle.std.proofs.lemmas.Bool.{false≢true}
use Rattle.aio_park.specs.Posts.{OneStopsFor, RunsUnder, ThreadTerms}
use Rattle.aio_park.specs.Stopping.{IsFirstFault, StopsFor}
use Rattle.aio_park.specs.declared.to_end.WorkerFault.{WorkerFault}
use Rattle.aio_park.specs.declared.to_end.WorkerFault.TheVariants as stop

-- ## The first fault of several

module _ {X : Type 0} where
  -- want of memory is told at any time
  pub memory_is_free : (ended : List (Result X WorkerFault)) → IsFirstFault ended stop.OutOfMemory
  memory_is_free [] = refl
  memory_is_free (Ok end ∷ ended) = memory_is_free ended
  memory_is_free (Err first ∷ ended) = inr refl

-- ## Why one of several stops

module _ {J : Type 0} (terms_of : J → ThreadTerms) where
  pub memory_stops : (jobs : List J) → OneStopsFor terms_of jobs stop.OutOfMemory
  memory_stops [] = refl
  memory_stops (job ∷ jobs) = inl tt

  module _ {X : Type 0} (Ends : J → Result X WorkerFault → Type 0)
      (stops : (job : J) (fault : WorkerFault) → Ends job (Err fault) → StopsFor (terms_of job).sure_of_wait (terms_of job).is_sure fault) where
    pub one_stops : (jobs : List J) (ended : List (Result X WorkerFault)) (fault : WorkerFault) → AllZip Ends jobs ended → IsFirstFault ended fault
        → OneStopsFor terms_of jobs fault
    one_stops [] [] fault all is = is
    one_stops [] (end ∷ ended) fault all is = elim all [ ]
    one_stops (job ∷ jobs) [] fault all is = elim all [ ]
    one_stops (job ∷ jobs) (Ok end ∷ ended) fault all is = inr (one_stops jobs ended fault all.1 is)
    one_stops (job ∷ jobs) (Err first ∷ ended) fault all (inl is) =
        inl (subst (StopsFor (terms_of job).sure_of_wait (terms_of job).is_sure) (sym is) (stops job first all.0))
    one_stops (job ∷ jobs) (Err first ∷ ended) fault all (inr is) = inl (subst (StopsFor (terms_of job).sure_of_wait (terms_of job).is_sure) (sym is) tt)

-- ## Under lent devices

pub unsure : (lent own : Bool) → (IsTrue lent → IsTrue own) → own ≡ false → lent ≡ false
unsure false own twin is = refl
unsure true own twin is = absurd (false≢true (sym is ∙ twin refl))

-- a fault of a thread has a cause in the lent devices
pub stops_under : (lent own : ThreadTerms) (fault : WorkerFault) → RunsUnder lent own → StopsFor own.sure_of_wait own.is_sure fault
    → StopsFor lent.sure_of_wait lent.is_sure fault
stops_under lent own (stop.Wait fault) under stops = (unsure lent.sure_of_wait own.sure_of_wait under.wait stops.0, stops.1)
stops_under lent own (stop.Notify fault) under stops = (unsure lent.is_sure own.is_sure under.notifier stops.0, stops.1)
stops_under lent own stop.OutOfMemory under stops = tt

pub all_stop : {J : Type 0} (terms_of : J → ThreadTerms) (lent : ThreadTerms) (jobs : List J) (fault : WorkerFault)
    → AllByRecursion (λ job. RunsUnder lent (terms_of job)) jobs → OneStopsFor terms_of jobs fault → StopsFor lent.sure_of_wait lent.is_sure fault
all_stop terms_of lent [] fault all stops = subst (StopsFor lent.sure_of_wait lent.is_sure) (sym stops) tt
all_stop terms_of lent (job ∷ jobs) fault all (inl stops) = stops_under lent (terms_of job) fault all.0 stops
all_stop terms_of lent (job ∷ jobs) fault all (inr stops) = all_stop terms_of lent jobs fault all.1 stops
