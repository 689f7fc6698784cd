-- How many seats of a lock are so, and what holds of each, once one seat was changed or one more came.
use Rattle.std.proofs.Common.{◌≡◌, ◌≢◌, ◌≤◌, ◌+◌, ℕ, zero, suc, Bool, true, false, ◌||◌, true≢false, List, [], ◌∷◌, ◌++◌, set, sym, ap, ◌∙◌, refl, subst, ⊎_elim, Option, Some, None, is_some, unwrap_or, if◌then◌else◌, arith}
use mathlib.Core.Option.{some, some-injective, some-ne-none}
use lib.ListN.{get_elem?}
use Rattle.aio_rules.specs.declared.lock_views.LockSeat.{LockSeat}
use Rattle.aio_rules.specs.SharedLock.{EachSeat, one_if, count}
use Rattle.aio_rules.proofs.SeatLists.{set_or_before, at_end_or_before}

pub no_true : {A : Type 0} → false ≡ true → A
no_true e = absurd (true≢false (sym e))

pub by_bool : {A : Type 0} (b : Bool) → (b ≡ true → A) → (b ≡ false → A) → A
by_bool true t f = t refl
by_bool false t f = f refl

pub or_once : (a b : Bool) → (a ≡ true → b ≡ true → ⊥) → one_if (a || b) ≡ one_if a + one_if b
or_once true true n = absurd (n refl refl)
or_once true false n = omega arith
or_once false b n = omega arith

pub either_known : (a b : Bool) (x y z : List ℕ) → (a ≡ true → x ≡ z) → (b ≡ true → y ≡ z) → (a || b) ≡ true → (if a then x else y) ≡ z
either_known true b x y z f g t = f refl
either_known false b x y z f g t = g t

pub if_true : (a : Bool) (x y : List ℕ) → a ≡ true → (if a then x else y) ≡ x
if_true true x y t = refl
if_true false x y t = no_true t

pub taken_is : (t : Option (List ℕ × List ℕ)) → is_some t ≡ true → t ≡ Some (unwrap_or t ([], []))
taken_is None e = no_true e
taken_is (Some x) e = refl

module _ (so : LockSeat → Bool) where
  pub count_set : (seats : List LockSeat) (seat : ℕ) (s w : LockSeat) → get_elem? seats seat ≡ some s → count so (set seats seat w) + one_if (so s) ≡ count so seats + one_if (so w)
  count_set [] seat s w e = absurd (some-ne-none s (sym e))
  count_set (x ∷ xs) zero s w e = let same : one_if (so x) ≡ one_if (so s) = ap (λ (y : LockSeat). one_if (so y)) (some-injective x s e) in omega arith
  count_set (x ∷ xs) (suc seat) s w e = let rest = count_set xs seat s w e in omega arith

  -- a seat that stays so, or not so, leaves the count
  pub count_same : (seats : List LockSeat) (seat : ℕ) (s w : LockSeat) → get_elem? seats seat ≡ some s → so w ≡ so s → count so (set seats seat w) ≡ count so seats
  count_same seats seat s w e same = let moved = count_set seats seat s w e in let bit : one_if (so w) ≡ one_if (so s) = ap one_if same in omega arith

  pub count_end : (seats : List LockSeat) (w : LockSeat) → count so (seats ++ w ∷ []) ≡ count so seats + one_if (so w)
  count_end [] w = omega arith
  count_end (x ∷ xs) w = let rest = count_end xs w in omega arith

  pub count_here : (seats : List LockSeat) (seat : ℕ) (s : LockSeat) → get_elem? seats seat ≡ some s → so s ≡ true → 1 ≤ count so seats
  count_here [] seat s e t = absurd (some-ne-none s (sym e))
  count_here (x ∷ xs) zero s e t = let same : one_if (so x) ≡ 1 = ap (λ (y : LockSeat). one_if (so y)) (some-injective x s e) ∙ ap one_if t in omega arith
  count_here (x ∷ xs) (suc seat) s e t = let rest = count_here xs seat s e t in omega arith

  -- where one seat is so, no other is
  pub sole : (seats : List LockSeat) (i j : ℕ) (s u : LockSeat) → count so seats ≡ 1 → get_elem? seats i ≡ some s → so s ≡ true → get_elem? seats j ≡ some u → so u ≡ true → j ≡ i
  sole [] i j s u one e t f h = absurd (some-ne-none s (sym e))
  sole (x ∷ xs) zero zero s u one e t f h = refl
  sole (x ∷ xs) zero (suc j) s u one e t f h =
      let same : one_if (so x) ≡ 1 = ap (λ (y : LockSeat). one_if (so y)) (some-injective x s e) ∙ ap one_if t in let more = count_here xs j u f h in absurd (omega arith)
  sole (x ∷ xs) (suc i) zero s u one e t f h =
      let same : one_if (so x) ≡ 1 = ap (λ (y : LockSeat). one_if (so y)) (some-injective x u f) ∙ ap one_if h in let more = count_here xs i s e t in absurd (omega arith)
  sole (x ∷ xs) (suc i) (suc j) s u one e t f h = let more = count_here xs i s e t in ap suc (sole xs i j s u (omega arith) e t f h)

module _ (Holds : LockSeat → Type 0) (seats : List LockSeat) where
  pub each_set : (seat : ℕ) (w : LockSeat) → Holds w → ((other : ℕ) (u : LockSeat) → other ≢ seat → get_elem? seats other ≡ some u → Holds u) → EachSeat (set seats seat w) Holds
  each_set seat w mine others j u e = ⊎_elim (λ (x : (j ≡ seat) × (w ≡ u)). subst Holds x.1 mine) (λ (x : (j ≢ seat) × (get_elem? seats j ≡ some u)). others j u x.0 x.1) (set_or_before seats seat j w u e)

  pub each_end : (w : LockSeat) → Holds w → EachSeat seats Holds → EachSeat (seats ++ w ∷ []) Holds
  each_end w mine others j u e = ⊎_elim (λ x. others j u x) (λ x. subst Holds x.1 mine) (at_end_or_before seats w j u e)
