-- Each step of a lock's table keeps its rule and tells what its play says.
use Rattle.std.proofs.Common.{◌≡◌, ◌≤◌, ◌==◌, ℕ, zero, suc, true, List, [], ◌∷◌, ◌++◌, set, sym, refl, ap, ◌∙◌, subst, Option, Some, None, unwrap_or, slice_index, arith}
use mathlib.Core.Option.{none, some}
use prog.Atomic.{either}
use lib.ListN.{get_elem?}
use Rattle.atomic_table.specs.Table.{State, Act, rest, keeps, takes, gives, Allows, Splits, Joins, Arrives, opening, stepped, Valid, carried_after, homes_after}
use Rattle.aio_rules.specs.declared.lock_views.LockSeat.{LockSeat}
use Rattle.aio_rules.specs.declared.lock_views.LockView.{LockView}
use Rattle.aio_rules.specs.SharedLock.{nobody, first_owner, second_owner, sole_owner, took_out, put_back, joined_owner, MayPutBack, with_slot, without_slot, is_inside, ValuePlace, LockRule}
use Rattle.aio_rules.specs.LockLaws.{TakesOut}
use Rattle.aio_rules.proofs.SeatLists.{beside_set}
use Rattle.aio_rules.proofs.LockSteps.{start_meets_rule, owners_keep_rule, exchange_keeps_rule, lost_exchange_keeps_rule, arrival_keeps_rule, late_arrival_keeps_rule, slot_goes_back, slot_comes_out, store_keeps_rule, join_keeps_rule}
use Rattle.aio_lock.specs.Plays.{SeatState, Ruled, Took, Closes, Arrived, Opens, IsLaden, LeavesSlot, FetchesSlot}

module _ {T : Type 0} (n0 n1 : T → List ℕ) where
  abbrev Lists : Type 0
  Lists = State (Option T) LockSeat

  word_of : (s : Lists) → (k : Ruled n0 n1 s) → slice_index s.words 0 ≡ k.word
  word_of s k = ap (λ l. slice_index l 0) k.one_word

  bit_of : (s : Lists) → (k : Ruled n0 n1 s) → slice_index s.words 0 ≤ 1
  bit_of s k = subst (λ (n : ℕ). n ≤ 1) (sym (word_of s k)) k.rule.bit

  words_after : (s : Lists) → (k : Ruled n0 n1 s) → (n : ℕ) → set s.words 0 n ≡ n ∷ []
  words_after s k n = ap (λ l. set l 0 n) k.one_word

  place_after : (s : Lists) → (k : Ruled n0 n1 s) → (place : ValuePlace T) → set s.homes 0 place ≡ place ∷ []
  place_after s k place = ap (λ l. set l 0 place) k.one_slot

  -- the rule at the word that was found
  rule_at : (s : Lists) → (k : Ruled n0 n1 s) → (n : ℕ) → slice_index s.words 0 ≡ n → LockRule n0 n1 n k.place s.views
  rule_at s k n e = subst (λ (m : ℕ). LockRule n0 n1 m k.place s.views) (sym (word_of s k) ∙ e) k.rule

  -- what is at home where the place has this
  at_home : (s : Lists) → (k : Ruled n0 n1 s) → (y : Option T) → k.place ≡ some y → get_elem? s.homes 0 ≡ some (some y)
  at_home s k y e = ap (λ l. get_elem? l 0) k.one_slot ∙ ap some e

  -- what is to show of a step of the seat that carries this, where its word was m and becomes f m
  abbrev Shows : Lists → ℕ → List (ℕ × Option T) → (ℕ → ℕ) → (ℕ → SeatState T → Type 0) → ℕ → Type 0
  Shows s id c f then m = (w : LockSeat) × (a : Act (Option T)) × Valid s.homes c a × Ruled n0 n1 (stepped s 0 (f m) id c w a) × then m (w, carried_after c a)

  -- the word is 0 or 1, so what is shown of both is shown of it
  of_both : (s : Lists) → Ruled n0 n1 s → (F : ℕ → Type 0) → (slice_index s.words 0 ≡ 0 → F 0) → (slice_index s.words 0 ≡ 1 → F 1) → F (slice_index s.words 0)
  of_both s k F at_zero at_one = cases (slice_index s.words 0) (bit_of s k) at_zero at_one
    where
      cases : (n : ℕ) → n ≤ 1 → (n ≡ 0 → F 0) → (n ≡ 1 → F 1) → F n
      cases zero small a b = a refl
      cases (suc zero) small a b = b refl
      cases (suc (suc n)) small a b = absurd (omega arith)

  pub begins : Ruled n0 n1 (opening (1 ∷ []) (None ∷ []) (without_slot sole_owner))
  begins = record { word = 1; place = some None; one_word = refl; one_slot = refl; rule = start_meets_rule n0 n1 }

  pub splits : (id : ℕ) (v : LockSeat) → v ≡ without_slot sole_owner → Splits (Ruled n0 n1) id v (without_slot (took_out [] [] (first_owner []))) (without_slot (second_owner []))
  splits id v e s k at =
      record { word = k.word; place = k.place; one_word = k.one_word; one_slot = k.one_slot; rule = owners_keep_rule n0 n1 k.word k.place s.views id k.rule (at ∙ ap some e) }

  pub joins : (id : ℕ) (v : LockSeat) (other : ℕ) (w : LockSeat) → v.view.taken ≡ None → w.view.taken ≡ None
      → Joins (Ruled n0 n1) id v other w (without_slot (joined_owner v.view w.view)) (without_slot nobody)
  joins id v other w free free' s k at apart two =
      let was : get_elem? s.views other ≡ some w = sym (beside_set s.views id other (without_slot (joined_owner v.view w.view)) apart) ∙ two in
      record { word = k.word; place = k.place; one_word = k.one_word; one_slot = k.one_slot; rule = join_keeps_rule n0 n1 k.word k.place s.views id other v w k.rule at free apart was free' }

  -- an exchange from 0 to 1
  abbrev to_one : ℕ → ℕ
  to_one n = either (n == 0) 1 n

  closes : (slots id : ℕ) (v : LockSeat) → Allows (Ruled n0 n1) slots id (v, []) 0 to_one (Closes n0 n1 (v, []))
  closes slots id v s k len at small = of_both s k (Shows s id [] to_one (Closes n0 n1 (v, [])))
      (λ e. let out : TakesOut n0 n1 k.place v (set s.views id) = exchange_keeps_rule n0 n1 k.place s.views id v (rule_at s k 0 e) at in let x = out.value in (
        with_slot (took_out (n0 x) (n1 x) v.view),
        takes 0 (Some x),
        at_home s k (Some x) out.there,
        record { word = 1; place = none; one_word = words_after s k 1; one_slot = place_after s k none; rule = out.rule },
        record { value = x; now = refl; agrees = out.agrees },
      ))
      (λ e. (v, keeps, tt, record { word = 1; place = k.place; one_word = words_after s k 1; one_slot = k.one_slot; rule = lost_exchange_keeps_rule n0 n1 k.place s.views id v (rule_at s k 1 e) at }, refl))

  -- a seat that found 0 has the slot with the value
  pub laden_at_zero : (me after : SeatState T) (found : ℕ) → Closes n0 n1 me found after → found ≡ 0 → IsLaden after
  laden_at_zero me after found closed zero_found = let took : Took n0 n1 me after = subst (λ (n : ℕ). Closes n0 n1 me n after) zero_found closed in
      (took.value, took.now ∙ ap (λ (m : SeatState T). (with_slot m.0.view, (0, Some took.value) ∷ [])) (sym took.now))

  pub arrives : (slots : ℕ) → Arrives (Ruled n0 n1) slots 0 (λ _. 1) (Arrived n0 n1)
  arrives slots s k len small = of_both s k (λ m. (w : LockSeat) × (a : Act (Option T)) × Valid s.homes [] a
      × Ruled n0 n1 record { words = set s.words 0 1; homes = homes_after s.homes [] a; views = s.views ++ w ∷ [] } × Arrived n0 n1 m (w, carried_after [] a))
      (λ e. let out : TakesOut n0 n1 k.place (without_slot nobody) (λ new. s.views ++ new ∷ []) = arrival_keeps_rule n0 n1 k.place s.views (rule_at s k 0 e) in let x = out.value in (
        with_slot (took_out (n0 x) (n1 x) nobody),
        takes 0 (Some x),
        at_home s k (Some x) out.there,
        record { word = 1; place = none; one_word = words_after s k 1; one_slot = place_after s k none; rule = out.rule },
        record { value = x; now = refl; agrees = out.agrees },
      ))
      (λ e. (without_slot nobody, keeps, tt, record { word = 1; place = k.place; one_word = words_after s k 1; one_slot = k.one_slot; rule = late_arrival_keeps_rule n0 n1 k.place s.views (rule_at s k 1 e) }, refl))

  -- a load leaves the word as it was
  abbrev same : ℕ → ℕ
  same n = n

  -- a step of a seat that is inside, so that it finds 1
  inside : (s : Lists) → (k : Ruled n0 n1 s) → k.word ≡ 1 → (F : ℕ → Type 0) → F 1 → F (slice_index s.words 0)
  inside s k one F shown = subst F (sym (word_of s k ∙ one)) shown

  leaves : (slots id : ℕ) (v : LockView) → Allows (Ruled n0 n1) slots id (with_slot v, (0, None) ∷ []) 0 same (λ _. LeavesSlot (with_slot v, (0, None) ∷ []))
  leaves slots id v s k len at small = let back = slot_goes_back n0 n1 k.word k.place s.views id (with_slot v) k.rule at refl in
      inside s k back.0 (Shows s id ((0, None) ∷ []) same (λ _. LeavesSlot (with_slot v, (0, None) ∷ [])))
      (without_slot v, gives, tt, record { word = k.word; place = some None; one_word = words_after s k 1 ∙ ap (λ (n : ℕ). n ∷ []) (sym back.0); one_slot = place_after s k (some None); rule = back.1 }, refl)

  fetches : (slots id : ℕ) (v : LockView) → is_inside v ≡ true → Allows (Ruled n0 n1) slots id (without_slot v, []) 0 same (λ _. FetchesSlot (without_slot v, []))
  fetches slots id v t s k len at small = let out = slot_comes_out n0 n1 k.word k.place s.views id (without_slot v) k.rule at t refl in
      inside s k out.0 (Shows s id [] same (λ _. FetchesSlot (without_slot v, [])))
      (with_slot v, takes 0 None, at_home s k None out.1, record { word = k.word; place = none; one_word = words_after s k 1 ∙ ap (λ (n : ℕ). n ∷ []) (sym out.0); one_slot = place_after s k none; rule = out.2 }, refl)

  abbrev value_or : T → List (ℕ × Option T) → T
  value_or x [] = x
  value_or x (y ∷ ys) = unwrap_or y.1 x

  opens : (slots id : ℕ) (v : LockView) (y : T) → MayPutBack v (n0 y) (n1 y)
      → Allows (Ruled n0 n1) slots id (with_slot v, (0, Some y) ∷ []) 0 (λ _. 0) (λ _. Opens n0 n1 (with_slot v, (0, Some y) ∷ []))
  opens slots id v y may s k len at small = (
    without_slot (put_back (n0 y) (n1 y) v),
    gives,
    tt,
    record {
      word = 0;
      place = some (Some y);
      one_word = words_after s k 0;
      one_slot = place_after s k (some (Some y));
      rule = store_keeps_rule n0 n1 k.word k.place s.views id (with_slot v) y k.rule at refl may;
    },
    (λ value e. ap (λ (z : T). (without_slot (put_back (n0 z) (n1 z) v), [])) (ap (value_or y) e)),
  )

  -- The same of a call's seat, by the way that it came: it began as `start`, without the slot.
  module _ (slots id : ℕ) (v : LockView) (start : SeatState T) (rests : start ≡ (without_slot v, [])) where
    pub may_close : Allows (Ruled n0 n1) slots id start 0 to_one (Closes n0 n1 start)
    may_close = subst (λ (m : SeatState T). Allows (Ruled n0 n1) slots id m 0 to_one (Closes n0 n1 m)) (sym rests) (closes slots id (without_slot v))

    pub may_fetch_slot : is_inside v ≡ true → Allows (Ruled n0 n1) slots id start 0 same (λ _. FetchesSlot start)
    may_fetch_slot t = subst (λ (m : SeatState T). Allows (Ruled n0 n1) slots id m 0 same (λ _. FetchesSlot m)) (sym rests) (fetches slots id v t)

    -- it fetched the slot, and put a value in
    pub may_open : (y : T) (fetched filled : SeatState T) → FetchesSlot start fetched → filled ≡ (fetched.0, (0, Some y) ∷ rest fetched.1) → MayPutBack v (n0 y) (n1 y)
        → Allows (Ruled n0 n1) slots id filled 0 (λ _. 0) (λ _. Opens n0 n1 filled)
    may_open y fetched filled out put may = let is : filled ≡ (with_slot v, (0, Some y) ∷ []) =
        put ∙ ap (λ (m : SeatState T). (m.0, (0, Some y) ∷ rest m.1)) out ∙ ap (λ (m : SeatState T). (with_slot m.0.view, (0, Some y) ∷ m.1)) rests in
        subst (λ (m : SeatState T). Allows (Ruled n0 n1) slots id m 0 (λ _. 0) (λ _. Opens n0 n1 m)) (sym is) (opens slots id v y may)

  -- and of a seat whose slot was emptied
  pub may_leave_slot : (slots id : ℕ) (laden emptied : SeatState T) → IsLaden laden → emptied ≡ (laden.0, (0, None) ∷ rest laden.1)
      → Allows (Ruled n0 n1) slots id emptied 0 same (λ _. LeavesSlot emptied)
  may_leave_slot slots id laden emptied has empty = let is : emptied ≡ (with_slot laden.0.view, (0, None) ∷ []) = empty ∙ ap (λ (m : SeatState T). (m.0, (0, None) ∷ rest m.1)) has.1 in
      subst (λ (m : SeatState T). Allows (Ruled n0 n1) slots id m 0 same (λ _. LeavesSlot m)) (sym is) (leaves slots id laden.0.view)
