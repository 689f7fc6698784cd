-- What the places of pairs may come to under which terms, and how a worker ends.
use Rattle.std.specs.Prelude.{◌≡◌, ℕ, ◌^◌, Bool, List, [], ◌∷◌, Option, None, Some, Result, Ok, Err, Vec, ⊤}
use Rattle.std.specs.declared.alloc.Global.{Global}
use Rattle.std.specs.List.{AllZip}
use Rattle.aio_base.specs.ClockBounds.{ClockBounds}
use Rattle.aio_base.specs.Connections.{Telling}
use Rattle.aio_pairs.specs.Fits.{Fits, ToGive}
use Rattle.aio_pairs.specs.declared.outcomes.PairEnd.{PairEnd}
use Rattle.aio_pairs.specs.declared.outcomes.PairEnd.TheVariants as pair
use Rattle.aio_places.specs.Places.{PlaceValue, all_of, end_gives}
use Rattle.aio_park.specs.declared.to_end.WorkerFault.{WorkerFault}
use Rattle.aio_park.specs.Posts.{RunsUnder, ThreadTerms}
use Rattle.aio_park.specs.Stopping.{StopsFor}

-- ## Terms

-- Under which terms pairs are served: the bounds that the clock tells, the idle time in nanoseconds, and whether the notifier is sure.
pub record Terms : Type 0 where
  pub bounds : ClockBounds
  pub idle : ℕ
  pub is_sure : Bool

-- before this moment the clock answers none
abbrev pub earliest_of : Option ℕ → ℕ
earliest_of None = 0
earliest_of (Some moment) = moment

-- and past this one none
abbrev pub latest_of : Option ℕ → ℕ
latest_of None = 10 ^ 18
latest_of (Some moment) = moment

abbrev pub FitsUnder : Terms → (a b : ToGive) → PairEnd → Type 0
FitsUnder t a b end = Fits a b (earliest_of t.bounds.least) (latest_of t.bounds.greatest) t.idle t.is_sure end

-- ## Places

-- A pair with its two ends comes to an end that fits them, and one with a fault to this fault.
abbrev pub PlaceFits : Terms → PlaceValue → PairEnd → Type 0
PlaceFits t (Ok ends) end = FitsUnder t (end_gives ends.0) (end_gives ends.1) end
PlaceFits t (Err fault) end = end ≡ pair.ArmFault fault

-- ## Workers

-- A worker: its parker, under which terms it serves, whether its reactor is sure of its wait, and its places.
pub record WorkerValue : Type 0 where
  pub parker : ℕ
  pub terms : Terms
  pub sure_of_wait : Bool
  pub places : List PlaceValue

-- how a worker ends: with an end for each of its places, in their order, or with a fault
abbrev pub WorkerEnds : WorkerValue → Result (Vec PairEnd Global) WorkerFault → Type 0
WorkerEnds w (Ok ends) = AllZip (PlaceFits w.terms) w.places ends.items
WorkerEnds w (Err fault) = StopsFor w.sure_of_wait w.terms.is_sure fault

-- ## All workers

-- under which devices the thread of such terms runs, in a reactor that is so sure of its wait
abbrev pub thread_terms : Terms → (sure_of_wait : Bool) → ThreadTerms
thread_terms t sure_of_wait = record { bounds = t.bounds; is_sure = t.is_sure; sure_of_wait = sure_of_wait }

abbrev pub worker_terms : WorkerValue → ThreadTerms
worker_terms w = thread_terms w.terms w.sure_of_wait

-- A worker serves under the lent devices' terms: its thread runs under these devices, with the same idle time.
pub record ServesUnder (t : Terms) (sure_of_wait : Bool) (w : WorkerValue) : Type 0 where
  pub thread : RunsUnder (thread_terms t sure_of_wait) (worker_terms w)
  pub idle : w.terms.idle ≡ t.idle

abbrev pub AllServeUnder : Terms → (sure_of_wait : Bool) → List WorkerValue → Type 0
AllServeUnder t sure_of_wait [] = ⊤
AllServeUnder t sure_of_wait (w ∷ workers) = ServesUnder t sure_of_wait w × AllServeUnder t sure_of_wait workers

-- ## What a server promises

-- The first two connections are sides A and B of the first pair, whose end comes first, the next two those of the second pair, and so on. Each end fits its
-- two connections. Connections behind those of the last pair are not spoken of.
abbrev pub EndsFit : {C : Type 0} → (telling : C → Telling) → (sure : C → Bool) → Terms → List C → List PairEnd → Type 0
EndsFit telling sure t conns [] = ⊤
EndsFit telling sure t [] (end ∷ ends) = ⊥
EndsFit telling sure t (a ∷ []) (end ∷ ends) = ⊥
EndsFit telling sure t (a ∷ b ∷ conns) (end ∷ ends) =
    FitsUnder t (all_of (telling a) (sure a)) (all_of (telling b) (sure b)) end × EndsFit telling sure t conns ends
