-- Places that stand for the connections with which a reactor began.
use Rattle.std.proofs.Common.{◌≡◌, ℕ, ◌*◌, Bool, true, false, ◌&&◌, List, [], ◌∷◌, length, Result, Ok, Err, inl, inr, refl, sym, ap, ◌∙◌, subst, arith}
use Rattle.std.specs.Prelude.{suc, IfSome, ◌<◌, ◌^◌}
use Rattle.std.specs.List.{AllByRecursion}
use Rattle.atomic_table.specs.Seated.{TableId}
use Rattle.aio_base.specs.Connections.{Telling, rest_of, sure_read}
use Rattle.aio_base.specs.Devices.{ArmCall}
use Rattle.aio_base.specs.declared.outcomes.ArmFault.{ArmFault}
use Rattle.aio_base.specs.declared.outcomes.Failed.{Failed}
use Rattle.aio_sources.specs.Sources.{SourceRefValue, TableEntry}
use Rattle.aio_sources.specs.Starting.{BeginAll, Begins}
use Rattle.aio_places.specs.Places.{AllStandFor, ArePlacesOf, HasJoined, IsPlaceOf, PlaceValue, StandsFor, all_of, end_gives, new_end}
use Rattle.aio_places.specs.SourceEnds.{is_sure_end}
use Rattle.aio_places.proofs.Told.{sure_by, told_as}

-- ## Places of connections that joined

-- a new end told no fault, so it is as sure as its connection
as_sure : (sure : Bool) → (sure && true) ≡ sure
as_sure false = refl
as_sure true = refl

module _ {C : Type 0} (step : C → ArmCall → Result (Unit {0}) Failed → C → Type 0) (rest_by : C → List ℕ) (count : C → ℕ) (is_sure : C → Bool) (telling : C → Telling)
    (laid_out : (c : C) → rest_by c ≡ rest_of (is_sure c) (telling c)) (bounded : (c : C) → IfSome (telling c).left (λ bytes. length bytes < 2 ^ 64))
    (words : TableId) where
  gives_alike : (c : C) (token : SourceRefValue) → rest_by c ≡ token.rest → end_gives (new_end token) ≡ all_of (telling c) (is_sure c)
  gives_alike c token is =
      ap (λ t. all_of t (is_sure_end token.rest 0)) (told_as rest_by is_sure telling laid_out bounded c token.rest is)
      ∙ ap (all_of (telling c)) (as_sure (sure_read token.rest) ∙ sure_by rest_by is_sure telling laid_out bounded c token.rest is)

  stands_for : (a b : C) (for_a for_b : Result SourceRefValue ArmFault) (place : PlaceValue) (first mid last : List TableEntry)
      → Begins step rest_by count is_sure words first a for_a mid → Begins step rest_by count is_sure words mid b for_b last
      → IsPlaceOf for_a for_b place → StandsFor telling is_sure a b place
  stands_for a b (Ok x) (Ok y) place first mid last begun_a begun_b is = subst (StandsFor telling is_sure a b) (sym is)
      (gives_alike a x (sym (ap (λ token. token.rest) begun_a.token_is)), gives_alike b y (sym (ap (λ token. token.rest) begun_b.token_is)))
  stands_for a b (Ok x) (Err fault) place first mid last begun_a begun_b is = subst (StandsFor telling is_sure a b) (sym is) (inr begun_b.fails.unsure)
  stands_for a b (Err fault) for_b place first mid last begun_a begun_b is = subst (StandsFor telling is_sure a b) (sym is) (inl begun_a.fails.unsure)

  pub all_stand_for : (entries after : List TableEntry) (conns : List C) (answers : List (Result SourceRefValue ArmFault)) (places : List PlaceValue)
      → BeginAll step rest_by count is_sure words entries conns answers after → ArePlacesOf answers places → AllStandFor telling is_sure conns places
  all_stand_for entries after [] [] [] begun are = tt
  all_stand_for entries after [] [] (place ∷ places) begun are = elim are [ ]
  all_stand_for entries after [] (x ∷ answers) places begun are = elim begun [ ]
  all_stand_for entries after (a ∷ []) [] places begun are = elim begun [ ]
  all_stand_for entries after (a ∷ []) (x ∷ []) places begun are = elim are [ ]
  all_stand_for entries after (a ∷ []) (x ∷ y ∷ answers) places begun are = elim begun.2 [ ]
  all_stand_for entries after (a ∷ b ∷ conns) [] places begun are = elim begun [ ]
  all_stand_for entries after (a ∷ b ∷ conns) (x ∷ []) places begun are = elim are [ ]
  all_stand_for entries after (a ∷ b ∷ conns) (x ∷ y ∷ answers) [] begun are = elim are [ ]
  all_stand_for entries after (a ∷ b ∷ conns) (x ∷ y ∷ answers) (place ∷ places) begun are = (
    stands_for a b x y place entries begun.0 begun.2.0 begun.1 begun.2.1 are.0,
    all_stand_for begun.2.0 after conns answers places begun.2.2 are.1,
  )

  has_joined : (c : C) (answer : Result SourceRefValue ArmFault) (entries mid : List TableEntry) → Begins step rest_by count is_sure words entries c answer mid
      → HasJoined rest_by words answer
  has_joined c (Ok token) entries mid begun = (
    ap (λ t. t.words) begun.token_is,
    ap (λ t. t.inside) begun.token_is,
    (c, sym (ap (λ t. t.rest) begun.token_is)),
  )
  has_joined c (Err fault) entries mid begun = tt

  pub all_have_joined : (entries after : List TableEntry) (conns : List C) (answers : List (Result SourceRefValue ArmFault))
      → BeginAll step rest_by count is_sure words entries conns answers after → AllByRecursion (HasJoined rest_by words) answers × (length answers ≡ length conns)
  all_have_joined entries after [] [] begun = (tt, refl)
  all_have_joined entries after [] (x ∷ answers) begun = elim begun [ ]
  all_have_joined entries after (c ∷ conns) [] begun = elim begun [ ]
  all_have_joined entries after (c ∷ conns) (x ∷ answers) begun =
      let more = all_have_joined begun.0 after conns answers begun.2 in ((has_joined c x entries begun.0 begun.1, more.0), ap suc more.1)

-- ## How many

module _ {C : Type 0} (telling : C → Telling) (is_sure : C → Bool) where
  pub two_each : (conns : List C) (places : List PlaceValue) → AllStandFor telling is_sure conns places → length conns ≡ 2 * length places
  two_each [] [] stand = refl
  two_each [] (place ∷ places) stand = elim stand [ ]
  two_each (a ∷ []) places stand = elim stand [ ]
  two_each (a ∷ b ∷ conns) [] stand = elim stand [ ]
  two_each (a ∷ b ∷ conns) (place ∷ places) stand = omega (arith, two_each conns places stand.1)
