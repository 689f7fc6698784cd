-- What stands of storings in a step, by what is held at each place, and how each change of them keeps it.
use Rattle.std.proofs.Common.{◌≡◌, ◌≢◌, ℕ, ◌+◌, ◌<◌, ◌≤◌, Bool, true, false, not, cond, ◌==◌, List, [], ◌∷◌, ◌++◌, None, Some, option_to_list, refl, ap, ◌∙◌, sym, subst, ⊎_elim, arith}
use Rattle.std.proofs.lemmas.Bool.{cases_Bool, cases_eq, eqb-true, eqb-false, ne_eqb, not-true}
use Rattle.std.proofs.lemmas.List.{map-append, append-nil}
use Rattle.std.proofs.lemmas.List.Elements.{filter-append}
use Rattle.aio_base.specs.declared.names.Waker.{Waker}
use Rattle.aio_laws.specs.Storings.{Place, same_place, Stored, Storings, standing_at, none_at, given_up_at, woken_at, taken_at, stored_at, round_woken, step_ended, times_in, wakers}
use Rattle.aio_base.proofs.Searching.{of_not, refiltered, filtered_empty}
use Rattle.aio_laws.proofs.storings.Places.{Holder, emptied, filled, same_place-eq, same_place-not, other_place}
use Rattle.aio_laws.proofs.storings.StoringCounts.{taken_times, woken_times, given_up_times, wake_taken_times, stored_times, ended_times}

-- Each number given so far stands in one place, and what stands is what is held, place by place.
pub record Kept (at : Holder) (l : Storings) : Type 0 where
  pub each : (n : ℕ) → n < l.given → times_in n l ≡ 1
  pub no_other : (n : ℕ) → l.given ≤ n → times_in n l ≡ 0
  pub stands : (p : Place) → wakers (standing_at p l.standing) ≡ option_to_list (at p)

pub held_same : (at now : Holder) (l : Storings) → ((p : Place) → now p ≡ at p) → Kept at l → Kept now l
held_same at now l same k = record {
  each = k.each;
  no_other = k.no_other;
  stands = λ p. k.stands p ∙ sym (ap option_to_list (same p));
}

-- what moves storings that do not stand
pub moved_kept : (at : Holder) (l m : Storings) → m.given ≡ l.given → m.standing ≡ l.standing → ((n : ℕ) → times_in n m ≡ times_in n l)
    → Kept at l → Kept at m
moved_kept at l m given standing times k = record {
  each = λ n below. times n ∙ k.each n (let same = given in omega arith);
  no_other = λ n above. times n ∙ k.no_other n (let same = given in omega arith);
  stands = λ p. ap (λ stored. wakers (standing_at p stored)) standing ∙ k.stands p;
}

-- ## A place is emptied

none_left : (p q : Place) (xs : List Stored) → same_place q p ≡ true → standing_at q (none_at p xs) ≡ []
none_left p q xs same =
    filtered_empty (λ (s : Stored). same_place q s.place) (λ (s : Stored). not (same_place p s.place))
    (λ s apart. subst (λ r. same_place r s.place ≡ false) (sym (same_place-eq q p same)) (not-true (same_place p s.place) apart)) xs

others_left : (p q : Place) (xs : List Stored) → same_place q p ≡ false → standing_at q (none_at p xs) ≡ standing_at q xs
others_left p q xs other =
    refiltered (λ (s : Stored). same_place q s.place) (λ (s : Stored). not (same_place p s.place))
    (λ s there. same_place-not q s.place
    (λ (e : q ≡ s.place). other_place q p other (e ∙ sym (same_place-eq p s.place (of_not (same_place p s.place) there))))) xs

left_at : (at : Holder) (p q : Place) (xs : List Stored) → wakers (standing_at q xs) ≡ option_to_list (at q)
    → wakers (standing_at q (none_at p xs)) ≡ option_to_list (emptied p at q)
left_at at p q xs before =
    ⊎_elim
    (λ (same : same_place q p ≡ true). ap wakers (none_left p q xs same) ∙ sym (ap (λ b. option_to_list (cond b None (at q))) same))
    (λ (other : same_place q p ≡ false).
    ap wakers (others_left p q xs other) ∙ before ∙ sym (ap (λ b. option_to_list (cond b None (at q))) other))
    (cases_Bool (same_place q p))

emptied_kept : (at : Holder) (p : Place) (l m : Storings) → m.given ≡ l.given → m.standing ≡ none_at p l.standing
    → ((n : ℕ) → times_in n m ≡ times_in n l) → Kept at l → Kept (emptied p at) m
emptied_kept at p l m given standing times k = record {
  each = λ n below. times n ∙ k.each n (let same = given in omega arith);
  no_other = λ n above. times n ∙ k.no_other n (let same = given in omega arith);
  stands = λ q. ap (λ stored. wakers (standing_at q stored)) standing ∙ left_at at p q l.standing (k.stands q);
}

pub take_kept : (at : Holder) (p : Place) (l : Storings) → Kept at l → Kept (emptied p at) (taken_at p l)
take_kept at p l k = emptied_kept at p l (taken_at p l) refl refl (λ n. taken_times n p l) k

pub wake_kept : (at : Holder) (p : Place) (l : Storings) → Kept at l → Kept (emptied p at) (woken_at p l)
wake_kept at p l k = emptied_kept at p l (woken_at p l) refl refl (λ n. woken_times n p l) k

pub give_up_kept : (at : Holder) (p : Place) (l : Storings) → Kept at l → Kept (emptied p at) (given_up_at p l)
give_up_kept at p l k = emptied_kept at p l (given_up_at p l) refl refl (λ n. given_up_times n p l) k

-- whom a taking and a waking add
pub added_wakers : (at : Holder) (p : Place) (before : List Stored) (l : Storings) → Kept at l
    → wakers (before ++ standing_at p l.standing) ≡ wakers before ++ option_to_list (at p)
added_wakers at p before l k = map-append (λ (s : Stored). s.waker) before (standing_at p l.standing) ∙ ap (λ more. wakers before ++ more) (k.stands p)

-- ## A waker is stored

new_at : (p q : Place) (waker : Waker) (number : ℕ) (xs : List Stored) (here : Bool) → same_place q p ≡ here
    → standing_at q (xs ++ record { number = number; place = p; waker = waker } ∷ [])
    ≡ standing_at q xs ++ cond here (record { number = number; place = p; waker = waker } ∷ []) []
new_at p q waker number xs here same =
    filter-append (λ (s : Stored). same_place q s.place) xs (record { number = number; place = p; waker = waker } ∷ [])
    ∙ ap (λ b. standing_at q xs ++ cond b (record { number = number; place = p; waker = waker } ∷ []) []) same

filled_at : (at : Holder) (p q : Place) (waker : Waker) (number : ℕ) (xs : List Stored) (here : Bool) → same_place q p ≡ here → at p ≡ None
    → wakers (standing_at q xs) ≡ option_to_list (at q)
    → wakers (standing_at q (xs ++ record { number = number; place = p; waker = waker } ∷ [])) ≡ option_to_list (cond here (Some waker) (at q))
filled_at at p q waker number xs true same free before =
    let none : wakers (standing_at q xs) ≡ [] = before ∙ ap (λ r. option_to_list (at r)) (same_place-eq q p same) ∙ ap option_to_list free in
    ap wakers (new_at p q waker number xs true same)
    ∙ map-append (λ (s : Stored). s.waker) (standing_at q xs) (record { number = number; place = p; waker = waker } ∷ [])
    ∙ ap (λ front. front ++ waker ∷ []) none
filled_at at p q waker number xs false same free before =
    ap wakers (new_at p q waker number xs false same ∙ append-nil (standing_at q xs)) ∙ before

numbered : (l : Storings) (n : ℕ) (same : Bool) (times now : ℕ) → (l.given == n) ≡ same → now ≡ times + cond same 1 0
    → (n < l.given → times ≡ 1) → (l.given ≤ n → times ≡ 0) → n < l.given + 1 → now ≡ 1
numbered l n true times now e sum one none below =
    let here : l.given ≡ n = eqb-true l.given n e in let zero = none (omega arith) in omega arith
numbered l n false times now e sum one none below =
    let apart = eqb-false l.given n e in let before = one (⊎_elim (λ (same : l.given ≡ n). absurd (apart same)) (λ (other : l.given ≢ n). omega arith) (cases_eq l.given n)) in omega arith

pub store_kept : (at : Holder) (p : Place) (waker : Waker) (l : Storings) → at p ≡ None → Kept at l → Kept (filled p waker at) (stored_at p waker l)
store_kept at p waker l free k = record {
  each = λ n below. numbered l n (l.given == n) (times_in n l) (times_in n (stored_at p waker l)) refl (stored_times n p waker l) (k.each n) (k.no_other n) below;
  no_other = λ n above.
      stored_times n p waker l
      ∙ ap (λ b. times_in n l + cond b 1 0) (ne_eqb l.given n (λ (e : l.given ≡ n). absurd (omega arith)))
      ∙ (let none = k.no_other n (omega arith) in omega arith);
  stands = λ q. filled_at at p q waker l.given l.standing (same_place q p) refl free (k.stands q);
}

-- ## Rounds and steps end

pub wake_taken_kept : (at : Holder) (l : Storings) → Kept at l → Kept at (round_woken l)
wake_taken_kept at l k = moved_kept at l (round_woken l) refl refl (λ n. wake_taken_times n l) k

pub ended_kept : (at : Holder) (l : Storings) → Kept at l → Kept at (step_ended l)
ended_kept at l k = moved_kept at l (step_ended l) refl refl (λ n. ended_times n l) k
