-- Each kind of step keeps the rule of a lock with notes.
use Rattle.std.proofs.Common.{◌≡◌, ◌+◌, ℕ, zero, suc, true, false, List, [], ◌∷◌, ◌++◌, set, sym, refl, ap, ◌∙◌, subst, Option, Some, None, is_some, unwrap_or, arith}
use Rattle.std.proofs.lemmas.Option.{same_Some, none-some}
use mathlib.Core.Option.{some, none, some-injective, some-ne-none}
use lib.ListN.{get_elem?}
use Rattle.aio_rules.specs.declared.lock_views.LockView.{LockView}
use Rattle.aio_rules.specs.declared.lock_views.LockSeat.{LockSeat}
use Rattle.aio_rules.specs.SharedLock.{nobody, first_owner, second_owner, sole_owner, taken_first, taken_second, took_out, put_back, joined_owner, with_slot, without_slot, EachSeat, one_if, count, owns_first, owns_second, has_taken, Knows, ValuePlace, LeavesEmpty}
use Rattle.aio_rules.specs.LockLaws.{SeatsRule, StartMeetsLockRule, OwnersKeepRule, ExchangeKeepsRule, LostExchangeKeepsRule, ArrivalKeepsRule, LateArrivalKeepsRule, SlotGoesBack, SlotComesOut, StoreKeepsRule, JoinKeepsLockRule, OneIsInside}
use Rattle.aio_rules.proofs.SeatLists.{beside_set, set_to_itself}
use Rattle.aio_rules.proofs.LockSeats.{no_true, by_bool, or_once, either_known, if_true, taken_is, count_set, count_same, count_end, count_here, sole, each_set, each_end}

-- a seat that owns nothing and has taken nothing knows nothing wrong
nobody_knows : (a b : List ℕ) → Knows a b (without_slot nobody)
nobody_knows a b = record { of_first = λ x. no_true x; of_second = λ x. no_true x; of_taken = λ t e. absurd (none-some t e); of_slot = λ x. no_true x }

nothing_taken : (v : LockView) → v.taken ≡ None → is_some v.taken ≡ false
nothing_taken v e = ap (λ (t : Option (List ℕ × List ℕ)). is_some t) e

start_knows : EachSeat (without_slot sole_owner ∷ []) (Knows [] [])
start_knows zero s e = subst (Knows [] []) (some-injective (without_slot sole_owner) s e)
    record { of_first = λ _. refl; of_second = λ _. refl; of_taken = λ t e. sym (same_Some ([], []) t e); of_slot = λ x. no_true x }
start_knows (suc seat) s e = absurd (some-ne-none s (sym e))

module _ {T : Type 0} (n0 n1 : T → List ℕ) where
  pub start_meets_rule : StartMeetsLockRule n0 n1
  start_meets_rule = record {
    bit = omega arith;
    first_owned = refl;
    second_owned = refl;
    takers = refl;
    first = [];
    second = [];
    knows = start_knows;
    full = λ e. absurd (omega arith);
    empty = λ seat s e t out. refl;
  }

  pub owners_keep_rule : OwnersKeepRule n0 n1
  owners_keep_rule word place seats seat r at =
      let v = without_slot sole_owner in
      let l = without_slot (took_out [] [] (first_owner [])) in
      let w = without_slot (second_owner []) in
      let some_seats = set seats seat l in
      let K = r.knows seat v at in
      record {
        bit = r.bit;
        first_owned = (let a = count_same owns_first seats seat v l at refl in let b : count owns_first (some_seats ++ w ∷ []) ≡ count owns_first some_seats + 0 = count_end owns_first some_seats w in let d = r.first_owned in omega arith);
        second_owned = (let a : count owns_second some_seats + 1 ≡ count owns_second seats + 0 = count_set owns_second seats seat v l at in
            let b : count owns_second (some_seats ++ w ∷ []) ≡ count owns_second some_seats + 1 = count_end owns_second some_seats w in let d = r.second_owned in omega arith);
        takers = (let a = count_same has_taken seats seat v l at refl in let b : count has_taken (some_seats ++ w ∷ []) ≡ count has_taken some_seats + 0 = count_end has_taken some_seats w in let d = r.takers in omega arith);
        first = r.first;
        second = r.second;
        knows = each_end (Knows r.first r.second) some_seats w
            record { of_first = λ x. no_true x; of_second = λ _. K.of_second refl; of_taken = λ t e. absurd (none-some t e); of_slot = λ x. no_true x }
            (each_set (Knows r.first r.second) seats seat l
            record { of_first = λ _. K.of_first refl; of_second = λ x. no_true x; of_taken = K.of_taken; of_slot = λ x. no_true x }
            (λ j u _ e. r.knows j u e));
        full = r.full;
        empty = each_end (LeavesEmpty place) some_seats w (λ t. no_true t)
            (each_set (LeavesEmpty place) seats seat l (λ _ _. r.empty seat v at refl refl) (λ j u _ e. r.empty j u e));
      }

  -- Where one seat has taken, the word is 1 and no other has.
  pub word_one : (word : ℕ) (place : ValuePlace T) (seats : List LockSeat) (seat : ℕ) (s : LockSeat) → SeatsRule n0 n1 word place seats → get_elem? seats seat ≡ some s → has_taken s ≡ true → word ≡ 1
  word_one word place seats seat s r at t = let some_one = count_here has_taken seats seat s at t in let all = r.takers in let b = r.bit in omega arith

  only_taker : (word : ℕ) (place : ValuePlace T) (seats : List LockSeat) (seat : ℕ) (s : LockSeat) → SeatsRule n0 n1 word place seats → get_elem? seats seat ≡ some s → has_taken s ≡ true
      → (j : ℕ) (u : LockSeat) → get_elem? seats j ≡ some u → has_taken u ≡ true → j ≡ seat
  only_taker word place seats seat s r at t j u e h = sole has_taken seats seat j s u (r.takers ∙ word_one word place seats seat s r at t) at t e h

  -- at word 0 no seat has taken
  none_has : {A : Type 0} (place : ValuePlace T) (seats : List LockSeat) → SeatsRule n0 n1 0 place seats → (j : ℕ) (u : LockSeat) → get_elem? seats j ≡ some u → has_taken u ≡ true → A
  none_has place seats r j u e t = let one = count_here has_taken seats j u e t in let none_yet = r.takers in absurd (omega arith)

  -- a seat that takes a value with the owners' notes knows what it knew, and these
  took_knows : (a b : List ℕ) (s : LockSeat) (x : T) → n0 x ≡ a → n1 x ≡ b → Knows a b s → Knows a b (with_slot (took_out (n0 x) (n1 x) s.view))
  took_knows a b s x first_is second_is K = record {
    of_first = K.of_first;
    of_second = K.of_second;
    of_taken = λ t e. sym (same_Some (n0 x, n1 x) t e) ∙ (λ i. (first_is i, second_is i));
    of_slot = λ _. refl;
  }

  pub exchange_keeps_rule : ExchangeKeepsRule n0 n1
  exchange_keeps_rule place seats seat s r at =
      let full = r.full refl in
      let x = full.value in
      let w = with_slot (took_out (n0 x) (n1 x) s.view) in
      let K = r.knows seat s at in
      let free : has_taken s ≡ false = by_bool (has_taken s) (λ t. none_has place seats r seat s at t) (λ f. f) in
      record {
        value = x;
        there = full.there;
        agrees = record { first = λ t. full.first_is ∙ sym (K.of_first t); second = λ t. full.second_is ∙ sym (K.of_second t) };
        rule = record {
          bit = omega arith;
          first_owned = (let a = count_same owns_first seats seat s w at refl in let d = r.first_owned in omega arith);
          second_owned = (let a = count_same owns_second seats seat s w at refl in let d = r.second_owned in omega arith);
          takers =
              (let a : count has_taken (set seats seat w) + one_if (has_taken s) ≡ count has_taken seats + 1 = count_set has_taken seats seat s w at in
              let c : one_if (has_taken s) ≡ 0 = ap one_if free in let d = r.takers in omega arith);
          first = r.first;
          second = r.second;
          knows = each_set (Knows r.first r.second) seats seat w (took_knows r.first r.second s x full.first_is full.second_is K) (λ j u _ e. r.knows j u e);
          full = λ e. absurd (omega arith);
          empty = each_set (LeavesEmpty none) seats seat w (λ _ out. no_true (sym out)) (λ j u _ e t _. none_has place seats r j u e t);
        };
      }

  pub lost_exchange_keeps_rule : LostExchangeKeepsRule n0 n1
  lost_exchange_keeps_rule place seats seat s r at = subst (SeatsRule n0 n1 1 place) (sym (set_to_itself seats seat s at)) r

  pub arrival_keeps_rule : ArrivalKeepsRule n0 n1
  arrival_keeps_rule place seats r =
      let full = r.full refl in
      let x = full.value in
      let w = with_slot (took_out (n0 x) (n1 x) nobody) in
      record {
        value = x;
        there = full.there;
        agrees = record { first = λ t. no_true t; second = λ t. no_true t };
        rule = record {
          bit = omega arith;
          first_owned = (let a : count owns_first (seats ++ w ∷ []) ≡ count owns_first seats + 0 = count_end owns_first seats w in let d = r.first_owned in omega arith);
          second_owned = (let a : count owns_second (seats ++ w ∷ []) ≡ count owns_second seats + 0 = count_end owns_second seats w in let d = r.second_owned in omega arith);
          takers = (let a : count has_taken (seats ++ w ∷ []) ≡ count has_taken seats + 1 = count_end has_taken seats w in let d = r.takers in omega arith);
          first = r.first;
          second = r.second;
          knows = each_end (Knows r.first r.second) seats w (took_knows r.first r.second (without_slot nobody) x full.first_is full.second_is (nobody_knows r.first r.second)) r.knows;
          full = λ e. absurd (omega arith);
          empty = each_end (LeavesEmpty none) seats w (λ _ out. no_true (sym out)) (λ j u e t _. none_has place seats r j u e t);
        };
      }

  pub late_arrival_keeps_rule : LateArrivalKeepsRule n0 n1
  late_arrival_keeps_rule place seats r = let w = without_slot nobody in record {
    bit = omega arith;
    first_owned = (let a : count owns_first (seats ++ w ∷ []) ≡ count owns_first seats + 0 = count_end owns_first seats w in let d = r.first_owned in omega arith);
    second_owned = (let a : count owns_second (seats ++ w ∷ []) ≡ count owns_second seats + 0 = count_end owns_second seats w in let d = r.second_owned in omega arith);
    takers = (let a : count has_taken (seats ++ w ∷ []) ≡ count has_taken seats + 0 = count_end has_taken seats w in let d = r.takers in omega arith);
    first = r.first;
    second = r.second;
    knows = each_end (Knows r.first r.second) seats w (nobody_knows r.first r.second) r.knows;
    full = λ e. absurd (omega arith);
    empty = each_end (LeavesEmpty place) seats w (λ t. no_true t) r.empty;
  }

  -- the seat that has taken moves the empty slot
  slot_moves : (word : ℕ) (place after : ValuePlace T) (seats : List LockSeat) (seat : ℕ) (s w : LockSeat) → SeatsRule n0 n1 word place seats → get_elem? seats seat ≡ some s → has_taken s ≡ true
      → w.view ≡ s.view → LeavesEmpty after w → (word ≡ 1) × SeatsRule n0 n1 word after (set seats seat w)
  slot_moves word place after seats seat s w r at t same left =
      let K = r.knows seat s at in
      let one = word_one word place seats seat s r at t in
      let alone = only_taker word place seats seat s r at t in (
        one,
        record {
          bit = r.bit;
          first_owned = count_same owns_first seats seat s w at (ap (λ (v : LockView). v.owns_first) same) ∙ r.first_owned;
          second_owned = count_same owns_second seats seat s w at (ap (λ (v : LockView). v.owns_second) same) ∙ r.second_owned;
          takers = count_same has_taken seats seat s w at (ap (λ (v : LockView). is_some v.taken) same) ∙ r.takers;
          first = r.first;
          second = r.second;
          knows = each_set (Knows r.first r.second) seats seat w
              record {
                of_first = λ x. ap (λ (v : LockView). v.first) same ∙ K.of_first (ap (λ (v : LockView). v.owns_first) (sym same) ∙ x);
                of_second = λ x. ap (λ (v : LockView). v.second) same ∙ K.of_second (ap (λ (v : LockView). v.owns_second) (sym same) ∙ x);
                of_taken = λ n e. K.of_taken n (ap (λ (v : LockView). v.taken) (sym same) ∙ e);
                of_slot = λ _. ap (λ (v : LockView). is_some v.taken) same ∙ t;
              }
              (λ j u _ e. r.knows j u e);
          full = λ zero_word. absurd (omega arith);
          empty = each_set (LeavesEmpty after) seats seat w left (λ j u apart e h _. absurd (apart (alone j u e h)));
        },
      )

  pub slot_goes_back : SlotGoesBack n0 n1
  slot_goes_back word place seats seat s r at out =
      slot_moves word place (some None) seats seat s (without_slot s.view) r at ((r.knows seat s at).of_slot out) refl (λ _ _. refl)

  pub slot_comes_out : SlotComesOut n0 n1
  slot_comes_out word place seats seat s r at t in_place = let moved = slot_moves word place none seats seat s (with_slot s.view) r at t refl (λ _ out. no_true (sym out)) in
      (moved.0, r.empty seat s at t in_place, moved.1)

  pub store_keeps_rule : StoreKeepsRule n0 n1
  store_keeps_rule word place seats seat s y r at out may =
      let v = s.view in
      let w = without_slot (put_back (n0 y) (n1 y) v) in
      let K = r.knows seat s at in
      let t = K.of_slot out in
      let one = word_one word place seats seat s r at t in
      let alone = only_taker word place seats seat s r at t in
      let took = K.of_taken (unwrap_or v.taken ([], [])) (taken_is v.taken t) in
      let took_first : taken_first v ≡ r.first = λ i. (took i).0 in
      let took_second : taken_second v ≡ r.second = λ i. (took i).1 in
      record {
        bit = omega arith;
        first_owned = count_same owns_first seats seat s w at refl ∙ r.first_owned;
        second_owned = count_same owns_second seats seat s w at refl ∙ r.second_owned;
        takers =
            (let a : count has_taken (set seats seat w) + one_if (has_taken s) ≡ count has_taken seats + 0 = count_set has_taken seats seat s w at in
            let c : one_if (has_taken s) ≡ 1 = ap one_if t in let d = r.takers in omega arith);
        first = n0 y;
        second = n1 y;
        knows = each_set (Knows (n0 y) (n1 y)) seats seat w
            record {
              of_first = λ x. if_true v.owns_first (n0 y) v.first x;
              of_second = λ x. if_true v.owns_second (n1 y) v.second x;
              of_taken = λ n e. absurd (none-some n e);
              of_slot = λ x. no_true x;
            }
            (λ j u apart e. let U = r.knows j u e in
            record {
              of_first = λ x. by_bool v.owns_first (λ mine. absurd (apart (sole owns_first seats seat j s u r.first_owned at mine e x))) (λ not_mine. U.of_first x ∙ sym took_first ∙ sym (may.first not_mine));
              of_second = λ x. by_bool v.owns_second (λ mine. absurd (apart (sole owns_second seats seat j s u r.second_owned at mine e x))) (λ not_mine. U.of_second x ∙ sym took_second ∙ sym (may.second not_mine));
              of_taken = λ n e'. absurd (apart (alone j u e (ap (λ (z : Option (List ℕ × List ℕ)). is_some z) e')));
              of_slot = U.of_slot;
            });
        full = λ e. record { value = y; there = refl; first_is = refl; second_is = refl };
        empty = each_set (LeavesEmpty (some (Some y))) seats seat w (λ h. no_true h) (λ j u apart e h _. absurd (apart (alone j u e h)));
      }

  pub join_keeps_rule : JoinKeepsLockRule n0 n1
  join_keeps_rule word place seats seat other s o r at free apart was free' =
      let both = without_slot (joined_owner s.view o.view) in
      let left = without_slot nobody in
      let mid = set seats seat both in
      let S = r.knows seat s at in
      let O = r.knows other o was in
      let there : get_elem? mid other ≡ some o = beside_set seats seat other both apart ∙ was in
      record {
        bit = r.bit;
        first_owned =
            (let a : count owns_first mid + one_if (owns_first s) ≡ count owns_first seats + one_if (owns_first both) = count_set owns_first seats seat s both at in
            let b : count owns_first (set mid other left) + one_if (owns_first o) ≡ count owns_first mid + 0 = count_set owns_first mid other o left there in
            let c : one_if (owns_first both) ≡ one_if (owns_first s) + one_if (owns_first o) = or_once (owns_first s) (owns_first o) (λ x y. apart (sole owns_first seats seat other s o r.first_owned at x was y)) in
            let d = r.first_owned in omega arith);
        second_owned =
            (let a : count owns_second mid + one_if (owns_second s) ≡ count owns_second seats + one_if (owns_second both) = count_set owns_second seats seat s both at in
            let b : count owns_second (set mid other left) + one_if (owns_second o) ≡ count owns_second mid + 0 = count_set owns_second mid other o left there in
            let c : one_if (owns_second both) ≡ one_if (owns_second s) + one_if (owns_second o) = or_once (owns_second s) (owns_second o) (λ x y. apart (sole owns_second seats seat other s o r.second_owned at x was y)) in
            let d = r.second_owned in omega arith);
        takers = count_same has_taken mid other o left there (sym (nothing_taken o.view free')) ∙ count_same has_taken seats seat s both at (sym (nothing_taken s.view free)) ∙ r.takers;
        first = r.first;
        second = r.second;
        knows = each_set (Knows r.first r.second) mid other left (nobody_knows r.first r.second)
            (λ j u _ e. each_set (Knows r.first r.second) seats seat both
            record {
              of_first = λ x. either_known s.view.owns_first o.view.owns_first s.view.first o.view.first r.first S.of_first O.of_first x;
              of_second = λ x. either_known s.view.owns_second o.view.owns_second s.view.second o.view.second r.second S.of_second O.of_second x;
              of_taken = λ t e. absurd (none-some t e);
              of_slot = λ x. no_true x;
            }
            (λ j u _ e. r.knows j u e) j u e);
        full = r.full;
        empty = each_set (LeavesEmpty place) mid other left (λ t. no_true t) (λ j u _ e. each_set (LeavesEmpty place) seats seat both (λ t. no_true t) (λ j u _ e. r.empty j u e) j u e);
      }

  pub one_is_inside : OneIsInside n0 n1
  one_is_inside word place seats seat other s o a b r at inside was =
      let t : has_taken s ≡ true = ap (λ (z : Option (List ℕ × List ℕ)). is_some z) inside in
      let took = (r.knows seat s at).of_taken (a, b) inside in
      let O = r.knows other o was in (
        word_one word place seats seat s r at t,
        (λ h. only_taker word place seats seat s r at t other o was h),
        record { first = λ x. (λ i. (took i).0) ∙ sym (O.of_first x); second = λ x. (λ i. (took i).1) ∙ sym (O.of_second x) },
      )
