-- The ends that fit the places of pairs fit the connections for which the places stand.
use Rattle.std.proofs.Common.{◌≡◌, ◌*◌, Bool, List, [], ◌∷◌, ◌++◌, length, Option, None, Some, Ok, Err, refl, sym, ap, subst, arith}
use Rattle.std.specs.Prelude.{suc, IfSome}
use Rattle.std.specs.List.{AllZip}
use Rattle.aio_base.specs.Connections.{Telling}
use Rattle.aio_pairs.specs.declared.outcomes.PairEnd.{PairEnd}
use Rattle.aio_places.specs.Places.{AllStandFor, PlaceValue, StandsFor, all_of, end_gives}
use Rattle.aio_places.proofs.Standing.{two_each}
use Rattle.aio_serve.specs.Accepted.{HandedOut}
use Rattle.aio_serve.specs.Places.{EndsFit, FitsUnder, PlaceFits, Terms}

as_long : {A B : Type 0} (R : A → B → Type 0) (xs : List A) (ys : List B) → AllZip R xs ys → length xs ≡ length ys
as_long R [] [] all = refl
as_long R [] (y ∷ ys) all = elim all [ ]
as_long R (x ∷ xs) [] all = elim all [ ]
as_long R (x ∷ xs) (y ∷ ys) all = ap suc (as_long R xs ys all.1)

module _ {C : Type 0} (telling : C → Telling) (is_sure : C → Bool) where
  fits_both : (t : Terms) (a b : C) (place : PlaceValue) (end : PairEnd) → StandsFor telling is_sure a b place → PlaceFits t place end
      → FitsUnder t (all_of (telling a) (is_sure a)) (all_of (telling b) (is_sure b)) end
  fits_both t a b (Ok ends) end stands fits =
      subst (λ gives. FitsUnder t gives (all_of (telling b) (is_sure b)) end) stands.0 (subst (λ gives. FitsUnder t (end_gives ends.0) gives end) stands.1 fits)
  fits_both t a b (Err fault) end stands fits =
      subst (FitsUnder t (all_of (telling a) (is_sure a)) (all_of (telling b) (is_sure b))) (sym fits) stands

  pub ends_fit : (t : Terms) (conns : List C) (places : List PlaceValue) (ends : List PairEnd)
      → AllStandFor telling is_sure conns places → AllZip (PlaceFits t) places ends → EndsFit telling is_sure t conns ends
  ends_fit t conns places [] stand fit = tt
  ends_fit t [] [] (end ∷ ends) stand fit = elim fit [ ]
  ends_fit t [] (place ∷ places) (end ∷ ends) stand fit = elim stand [ ]
  ends_fit t (a ∷ []) places (end ∷ ends) stand fit = elim stand [ ]
  ends_fit t (a ∷ b ∷ conns) [] (end ∷ ends) stand fit = elim stand [ ]
  ends_fit t (a ∷ b ∷ conns) (place ∷ places) (end ∷ ends) stand fit = (
    fits_both t a b place end stand.0 fit.0,
    ends_fit t conns places ends stand.1 fit.1,
  )

  -- connections behind those of the last pair are not spoken of
  pub fit_before : (t : Terms) (conns later : List C) (ends : List PairEnd) → EndsFit telling is_sure t conns ends → EndsFit telling is_sure t (conns ++ later) ends
  fit_before t conns later [] fit = tt
  fit_before t [] later (end ∷ ends) fit = elim fit [ ]
  fit_before t (a ∷ []) later (end ∷ ends) fit = elim fit [ ]
  fit_before t (a ∷ b ∷ conns) later (end ∷ ends) fit = (fit.0, fit_before t conns later ends fit.1)

  pub as_many : (R : PlaceValue → PairEnd → Type 0) (conns : List C) (places : List PlaceValue) (ends : List PairEnd)
      → AllStandFor telling is_sure conns places → AllZip R places ends → length conns ≡ 2 * length ends
  as_many R conns places ends stand fit = omega (arith, two_each telling is_sure conns places stand, as_long R places ends fit)

  -- the connections that were accepted are the first of those that the port told
  pub told_fit : (t : Terms) (told left : Option (List C)) (conns : List C) (places : List PlaceValue) (ends : List PairEnd) → HandedOut told conns left
      → AllStandFor telling is_sure conns places → AllZip (PlaceFits t) places ends → IfSome told (λ all. EndsFit telling is_sure t all ends)
  told_fit t None left conns places ends handed stand fit = tt
  told_fit t (Some told) None conns places ends handed stand fit = elim handed [ ]
  told_fit t (Some told) (Some left) conns places ends handed stand fit =
      subst (λ all. EndsFit telling is_sure t all ends) (sym handed) (fit_before t conns left ends (ends_fit t conns places ends stand fit))
