-- Lists of the queue's entries, read by element, by place, by pass and by number.
use Rattle.std.proofs.Common.{◌≡◌, ◌≢◌, ℕ, zero, suc, ◌+◌, ◌<◌, ◌≤◌, Bool, false, ◌&&◌, eqb, List, [], ◌∷◌, ◌++◌, length, map, set, sym, refl, ap, ◌∙◌, subst, ⊎_elim, append-nil, arith}
use Rattle.std.specs.List.{AllByRecursion as Every}
use Rattle.std.proofs.lemmas.Bool.{cases_eq, cond-true, cond-false, eq-eqb, ne_eqb, and_left, and_right}
use mathlib.Core.Option.{some, some-injective, some-ne-none}
use lib.ListN.{get_elem?}
use Rattle.aio_rules.specs.declared.operations.OpEntry.{OpEntry}
use Rattle.aio_rules.specs.declared.operations.QueueSeat.{QueueSeat}
use Rattle.aio_rules.specs.SharedLock.{one_if}
use Rattle.aio_rules.specs.Operations.{EachAt, Counts, Rises, of_pass, times, times_popped}
use Rattle.aio_rules.proofs.SeatLists.{set_or_before, at_end_or_before}

-- ## A fact of every element

module _ {X : Type 0} where
  pub each_end : (P : X → Type 0) (xs : List X) (y : X) → Every P xs → P y → Every P (xs ++ y ∷ [])
  each_end P [] y all mine = (mine, tt)
  each_end P (x ∷ xs) y all mine = (all.0, each_end P xs y all.1 mine)

  pub each_with : (P Q : X → Type 0) (xs : List X) → ((x : X) → P x → Q x) → Every P xs → Every Q xs
  each_with P Q [] f all = tt
  each_with P Q (x ∷ xs) f all = (f x all.0, each_with P Q xs f all.1)

  pub each_with_both : (P Q R : X → Type 0) (xs : List X) → ((x : X) → P x → Q x → R x) → Every P xs → Every Q xs → Every R xs
  each_with_both P Q R [] f p q = tt
  each_with_both P Q R (x ∷ xs) f p q = (f x p.0 q.0, each_with_both P Q R xs f p.1 q.1)

  pub each_front : (P : X → Type 0) (xs ys : List X) → Every P (xs ++ ys) → Every P xs
  each_front P [] ys all = tt
  each_front P (x ∷ xs) ys all = (all.0, each_front P xs ys all.1)

  pub each_at : (P : X → Type 0) (xs : List X) (at : ℕ) (x : X) → Every P xs → get_elem? xs at ≡ some x → P x
  each_at P [] at x all e = absurd (some-ne-none x (sym e))
  each_at P (y ∷ ys) zero x all e = subst P (some-injective y x e) all.0
  each_at P (y ∷ ys) (suc at) x all e = each_at P ys at x all.1 e

  pub found_at : (xs : List X) (at : ℕ) → at < length xs → (x : X) × (get_elem? xs at ≡ some x)
  found_at [] at below = absurd (omega arith)
  found_at (x ∷ xs) zero below = (x, refl)
  found_at (x ∷ xs) (suc at) below = found_at xs at (omega arith)

  pub eachat_set : (P : X → Type 0) (xs : List X) (at : ℕ) (w : X) → P w → EachAt xs P → EachAt (set xs at w) P
  eachat_set P xs at w mine others j u e = ⊎_elim (λ (x : (j ≡ at) × (w ≡ u)). subst P x.1 mine) (λ (x : (j ≢ at) × (get_elem? xs j ≡ some u)). others j u x.1) (set_or_before xs at j w u e)

  pub eachat_end : (P : X → Type 0) (xs : List X) (w : X) → P w → EachAt xs P → EachAt (xs ++ w ∷ []) P
  eachat_end P xs w mine others j u e = ⊎_elim (λ x. others j u x) (λ x. subst P x.1 mine) (at_end_or_before xs w j u e)

  pub eachat_one : (P : X → Type 0) (w : X) → P w → EachAt (w ∷ []) P
  eachat_one P w mine zero u e = subst P (some-injective w u e) mine
  eachat_one P w mine (suc j) u e = absurd (some-ne-none u (sym e))

module _ {X Y : Type 0} (f : X → Y) where
  pub each_map : (P : Y → Type 0) (xs : List X) → Every P (map f xs) → Every (λ (x : X). P (f x)) xs
  each_map P [] all = tt
  each_map P (x ∷ xs) all = (all.0, each_map P xs all.1)

module _ {O : Type 0} where
  -- ## Those of one pass

  pub of_pass_here : (pass : ℕ) (e : OpEntry O) (es : List (OpEntry O)) → e.pass ≡ pass → of_pass pass (e ∷ es) ≡ e ∷ of_pass pass es
  of_pass_here pass e es is = cond-true (eqb e.pass pass) (e ∷ of_pass pass es) (of_pass pass es) (eq-eqb e.pass pass is)

  pub of_pass_other : (pass : ℕ) (e : OpEntry O) (es : List (OpEntry O)) → e.pass ≢ pass → of_pass pass (e ∷ es) ≡ of_pass pass es
  of_pass_other pass e es other = cond-false (eqb e.pass pass) (e ∷ of_pass pass es) (of_pass pass es) (ne_eqb e.pass pass other)

  pub of_pass_append : (pass : ℕ) (es fs : List (OpEntry O)) → of_pass pass (es ++ fs) ≡ of_pass pass es ++ of_pass pass fs
  of_pass_append pass [] fs = refl
  of_pass_append pass (e ∷ es) fs = ⊎_elim
      (λ (is : e.pass ≡ pass). of_pass_here pass e (es ++ fs) is ∙ ap (λ (l : List (OpEntry O)). e ∷ l) (of_pass_append pass es fs)
      ∙ ap (λ (l : List (OpEntry O)). l ++ of_pass pass fs) (sym (of_pass_here pass e es is)))
      (λ (other : e.pass ≢ pass). of_pass_other pass e (es ++ fs) other ∙ of_pass_append pass es fs
      ∙ ap (λ (l : List (OpEntry O)). l ++ of_pass pass fs) (sym (of_pass_other pass e es other)))
      (cases_eq e.pass pass)

  pub of_pass_push_here : (pass : ℕ) (es : List (OpEntry O)) (x : OpEntry O) → x.pass ≡ pass → of_pass pass (es ++ x ∷ []) ≡ of_pass pass es ++ x ∷ []
  of_pass_push_here pass es x is = of_pass_append pass es (x ∷ []) ∙ ap (λ (l : List (OpEntry O)). of_pass pass es ++ l) (of_pass_here pass x [] is)

  pub of_pass_push_other : (pass : ℕ) (es : List (OpEntry O)) (x : OpEntry O) → x.pass ≢ pass → of_pass pass (es ++ x ∷ []) ≡ of_pass pass es
  of_pass_push_other pass es x other =
      of_pass_append pass es (x ∷ []) ∙ ap (λ (l : List (OpEntry O)). of_pass pass es ++ l) (of_pass_other pass x [] other) ∙ append-nil (of_pass pass es)

  pub each_of_pass : (P : OpEntry O → Type 0) (pass : ℕ) (es : List (OpEntry O)) → Every P (of_pass pass es) → Every (λ (e : OpEntry O). e.pass ≡ pass → P e) es
  each_of_pass P pass [] all = tt
  each_of_pass P pass (e ∷ es) all = ⊎_elim
      (λ (is : e.pass ≡ pass). let here : Every P (e ∷ of_pass pass es) = subst (Every P) (of_pass_here pass e es is) all in ((λ _. here.0), each_of_pass P pass es here.1))
      (λ (other : e.pass ≢ pass). ((λ is. absurd (other is)), each_of_pass P pass es (subst (Every P) (of_pass_other pass e es other) all)))
      (cases_eq e.pass pass)

  pub none_of_pass : (pass : ℕ) (es : List (OpEntry O)) → Every (λ (e : OpEntry O). e.pass ≢ pass) es → of_pass pass es ≡ []
  none_of_pass pass [] all = refl
  none_of_pass pass (e ∷ es) all = of_pass_other pass e es all.0 ∙ none_of_pass pass es all.1

  -- a pass that has entries in a list has its first one at some place there
  pub first_of_pass : (pass : ℕ) (es : List (OpEntry O)) (x : OpEntry O) (xs : List (OpEntry O)) → of_pass pass es ≡ x ∷ xs → (at : ℕ) × (get_elem? es at ≡ some x)
  first_of_pass pass [] x xs is = let none : 0 ≡ suc (length xs) = ap (λ (l : List (OpEntry O)). length l) is in absurd (omega arith)
  first_of_pass pass (e ∷ es) x xs is = ⊎_elim
      (λ (here : e.pass ≡ pass). (0, ap (λ (l : List (OpEntry O)). get_elem? l 0) (sym (of_pass_here pass e es here) ∙ is)))
      (λ (other : e.pass ≢ pass). let rest = first_of_pass pass es x xs (sym (of_pass_other pass e es other) ∙ is) in (suc rest.0, rest.1))
      (cases_eq e.pass pass)

  -- ## Entries numbered without a gap

  pub counts_rest : (pass k : ℕ) (es fs : List (OpEntry O)) → Counts pass k (es ++ fs) → Counts pass (k + length es) fs
  counts_rest pass k [] fs c = let same : k ≡ k + 0 = omega arith in subst (λ (n : ℕ). Counts pass n fs) same c
  counts_rest pass k (e ∷ es) fs c =
      let same : (k + 1) + length es ≡ k + suc (length es) = omega arith in subst (λ (n : ℕ). Counts pass n fs) same (counts_rest pass (k + 1) es fs c.2)

  pub counts_end : (pass k : ℕ) (es : List (OpEntry O)) (x : OpEntry O) → Counts pass k es → x.pass ≡ pass → x.number ≡ k + length es → Counts pass k (es ++ x ∷ [])
  counts_end pass k [] x c is number = (is, (let same : x.number ≡ k = omega (arith, number) in same), tt)
  counts_end pass k (e ∷ es) x c is number = (c.0, c.1, counts_end pass (k + 1) es x c.2 is (omega (arith, number)))

  abbrev pub Within : ℕ → ℕ → ℕ → OpEntry O → Type 0
  Within pass low high e = (e.pass ≡ pass) × (low ≤ e.number) × (e.number < high)

  pub counts_within : (pass k : ℕ) (es : List (OpEntry O)) → Counts pass k es → Every (Within pass k (k + length es)) es
  counts_within pass k [] c = tt
  counts_within pass k (e ∷ es) c =
      let same = c.1 in (
        (c.0, omega arith, omega arith),
        each_with (Within pass (k + 1) ((k + 1) + length es)) (Within pass k (k + suc (length es))) es (λ f w. let low = w.1 in let high = w.2 in (w.0, omega arith, omega arith))
            (counts_within pass (k + 1) es c.2),
      )

  -- ## How often an entry is there

  abbrev pub Is : ℕ → ℕ → OpEntry O → Bool
  Is pass k e = eqb e.pass pass && eqb e.number k

  pub times_append : (pass k : ℕ) (es fs : List (OpEntry O)) → times pass k (es ++ fs) ≡ times pass k es + times pass k fs
  times_append pass k [] fs = omega arith
  times_append pass k (e ∷ es) fs = let rest = times_append pass k es fs in omega arith

  pub times_none : (pass k : ℕ) (es : List (OpEntry O)) → Every (λ (e : OpEntry O). e.pass ≡ pass → e.number ≢ k) es → times pass k es ≡ 0
  times_none pass k [] all = refl
  times_none pass k (e ∷ es) all =
      let miss : Is pass k e ≡ false = ⊎_elim (λ (is : e.pass ≡ pass). and_right (eqb e.pass pass) (eqb e.number k) (ne_eqb e.number k (all.0 is)))
      (λ (other : e.pass ≢ pass). and_left (eqb e.pass pass) (eqb e.number k) (ne_eqb e.pass pass other)) (cases_eq e.pass pass) in
      let here : one_if (Is pass k e) ≡ 0 = ap one_if miss in
      let rest = times_none pass k es all.1 in
      omega arith

  pub times_popped_none : (pass k : ℕ) (seats : List (QueueSeat O)) → EachAt seats (λ w. Every (λ (e : OpEntry O). e.pass ≡ pass → e.number ≢ k) w.pulled) → times_popped pass k seats ≡ 0
  times_popped_none pass k [] all = refl
  times_popped_none pass k (h ∷ seats) all =
      let here = times_none pass k h.pulled (all 0 h refl) in
      let rest = times_popped_none pass k seats (λ at w e. all (suc at) w e) in
      omega arith

  pub times_popped_set : (pass k : ℕ) (seats : List (QueueSeat O)) (at : ℕ) (h w : QueueSeat O) → get_elem? seats at ≡ some h
      → times_popped pass k (set seats at w) + times pass k h.pulled ≡ times_popped pass k seats + times pass k w.pulled
  times_popped_set pass k [] at h w e = absurd (some-ne-none h (sym e))
  times_popped_set pass k (x ∷ seats) zero h w e = let same : times pass k x.pulled ≡ times pass k h.pulled = ap (λ (y : QueueSeat O). times pass k y.pulled) (some-injective x h e) in omega arith
  times_popped_set pass k (x ∷ seats) (suc at) h w e = let rest = times_popped_set pass k seats at h w e in omega arith

  pub times_popped_end : (pass k : ℕ) (seats : List (QueueSeat O)) (w : QueueSeat O) → times_popped pass k (seats ++ w ∷ []) ≡ times_popped pass k seats + times pass k w.pulled
  times_popped_end pass k [] w = omega arith
  times_popped_end pass k (x ∷ seats) w = let rest = times_popped_end pass k seats w in omega arith

  -- ## Rising numbers

  pub rises_end : (es : List (OpEntry O)) (x : OpEntry O) → Rises es → Every (λ (e : OpEntry O). x.pass ≡ e.pass → e.number < x.number) es → Rises (es ++ x ∷ [])
  rises_end [] x r b = (tt, tt)
  rises_end (e ∷ es) x r b = (each_end (λ (later : OpEntry O). later.pass ≡ e.pass → e.number < later.number) es x r.0 b.0, rises_end es x r.1 b.1)
