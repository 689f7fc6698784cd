-- The slots of a hand-over, one more behind those so far, and the member that woke them.
use Rattle.std.proofs.Common.{◌≡◌, ℕ, ◌+◌, ◌*◌, ◌≤◌, Bool, cond, not, eqb, List, [], ◌∷◌, ◌++◌, append-nil, sym, ap, ◌∙◌, subst, le_refl, arith}
use Rattle.std.proofs.lemmas.Bool.{eq-eqb, ne_eqb}
use Rattle.std.proofs.lemmas.List.FromFn.{map-range_with_len_more, filter_of_map_range_with_len_more}
use Rattle.aio_base.specs.declared.names.Waker.{Waker}
use Rattle.aio_base.specs.Devices.{TellsFaults}
use Rattle.aio_words.specs.Calls.{all_wake_steps}
use Rattle.aio_words.specs.Seats.{SeatValue}
use Rattle.aio_shared.specs.HandOver.{first_slot, first_slots_of, slots_below}
use Rattle.aio_shared.specs.Members.{IsLaterMember, MemberValue}
use Rattle.aio_shared.specs.OneCell.{ClaimValue, with_empties}
use Rattle.aio_shared.specs.Reacting.{Wakes}

pub slots_more : (n : ℕ) → slots_below (n + 1) ≡ slots_below n ++ record { 0 = n } ∷ []
slots_more n = map-range_with_len_more (λ w. record { 0 = w }) 0 n n (omega arith)

first_slots_more : (n but : ℕ) → first_slots_of (n + 1) but ≡ first_slots_of n but ++ cond (not (eqb (64 * n) (64 * but))) (first_slot n ∷ []) []
first_slots_more n but = filter_of_map_range_with_len_more (λ w. not (eqb w.0 (64 * but))) first_slot 0 n n (omega arith)

-- the one left out adds none
pub first_slots_same : (n but : ℕ) → n ≡ but → first_slots_of (n + 1) but ≡ first_slots_of n but
first_slots_same n but is =
    first_slots_more n but ∙ ap (λ b. first_slots_of n but ++ cond (not b) (first_slot n ∷ []) []) (eq-eqb (64 * n) (64 * but) (ap (λ k. 64 * k) is)) ∙ append-nil (first_slots_of n but)

pub first_slots_one : (n but : ℕ) → (n ≡ but → ⊥) → first_slots_of (n + 1) but ≡ first_slots_of n but ++ first_slot n ∷ []
first_slots_one n but other =
    first_slots_more n but ∙ ap (λ b. first_slots_of n but ++ cond (not b) (first_slot n ∷ []) []) (ne_eqb (64 * n) (64 * but) (λ e. other (omega arith)))

module _ {N : Type 0} (faults : N → ℕ) (is_sure : N → Bool) (parkers : ℕ) (wakers : List Waker) (failed : Type 0) where
  -- a member that only woke is later
  pub woken_later : (m after : MemberValue N) → after ≡ record m { pass = after.pass; notifier = after.notifier } → Wakes parkers wakers m.pass after.pass
      → TellsFaults faults is_sure m.notifier after.notifier failed → IsLaterMember faults is_sure m after
  woken_later m after kept woke t = let ids : after.ids ≡ m.ids = ap (λ (x : MemberValue N). x.ids) kept in
      let claim : after.claim ≡ m.claim = ap (λ (x : MemberValue N). x.claim) kept in
      let own = ap (λ (x : MemberValue N). x.ops) kept in
      record {
        claim = claim ∙ (λ i. with_empties (sym (ap (λ (x : ClaimValue). x.empties) claim) i) m.claim);
        words = ap (λ (x : SeatValue). x.words) woke.seat;
        queue = ap (λ o. o.queue) own;
        number = ap (λ o. o.number) own;
        sure = t.sure;
        did = (all_wake_steps wakers parkers woke.founds, ap (λ (x : SeatValue). x.view.did) woke.seat);
        own = ([], ap (λ o. o.own) own ∙ sym (append-nil m.ops.own));
        pulled = ([], ap (λ o. o.pulled) own ∙ sym (append-nil m.ops.pulled));
        fulls = subst (λ o. m.ops.fulls ≤ o.fulls) (sym own) (le_refl m.ops.fulls);
        empties = subst (λ o. m.ops.empties ≤ o.empties) (sym own) (le_refl m.ops.empties);
        ids = omega arith;
        notifier = t.cause.later;
      }
