-- The whole rule of the queue of operations, with the counts beside the seats: it holds at the start, and each kind of step keeps it.
use Rattle.std.proofs.Common.{◌≡◌, ◌≢◌, ℕ, zero, suc, ◌<◌, ◌≤◌, List, [], ◌∷◌, ◌++◌, length, set, sym, refl, ap, ◌∙◌, subst, ⊎_elim, length-set, arith}
use Rattle.std.specs.List.{AllByRecursion as Every}
use Rattle.std.proofs.lemmas.List.{map_push, map-set, length-map}
use mathlib.Core.Option.{some, some-injective, some-ne-none}
use lib.ListN.{get_elem?}
use Rattle.aio_rules.specs.declared.operations.OpEntry.{OpEntry}
use Rattle.aio_rules.specs.declared.operations.QueueSeat.{QueueSeat}
use Rattle.aio_rules.specs.Operations.{Rises, PassRule, SeatsRule, QueuePass, new_seat, fresh_pass, pushed, found_full, popped, found_none, split_pass, next_entry, seats_of}
use Rattle.aio_rules.specs.OperationLaws.{StandsAt, StartMeetsQueueRule, PushKeepsQueueRule, FullPushKeepsQueueRule, PopKeepsQueueRule, EmptyPopKeepsQueueRule, NewPassKeepsQueueRule}
use Rattle.aio_rules.proofs.SeatLists.{set_or_before, at_end_or_before, set_to_itself}
use Rattle.aio_rules.proofs.OperationLists.{each_end, each_with, each_with_both, eachat_one}
use Rattle.aio_rules.proofs.OperationSteps.{push_keeps, pop_keeps, new_pass_keeps}

module _ {O : Type 0} where
  pub seat_at : (views : List (QueuePass O)) (pass : ℕ) (v : QueuePass O) → get_elem? views pass ≡ some v → get_elem? (seats_of views) pass ≡ some v.seat
  seat_at [] pass v e = absurd (some-ne-none v (sym e))
  seat_at (x ∷ xs) zero v e = ap (λ (u : QueuePass O). some u.seat) (some-injective x v e)
  seat_at (x ∷ xs) (suc pass) v e = seat_at xs pass v e

  seats_set : (views : List (QueuePass O)) (pass : ℕ) (w : QueuePass O) → set (seats_of views) pass w.seat ≡ seats_of (set views pass w)
  seats_set views pass w = sym (map-set (λ (u : QueuePass O). u.seat) views pass w)

  seats_end : (views : List (QueuePass O)) (w : QueuePass O) → seats_of views ++ w.seat ∷ [] ≡ seats_of (views ++ w ∷ [])
  seats_end views w = sym (map_push (λ (u : QueuePass O). u.seat) views w)

  abbrev Same : List (QueuePass O) → OpEntry O → Type 0
  Same views e = (u : QueuePass O) → get_elem? views e.pass ≡ some u → e.empties ≡ u.empties

  same_set : (views : List (QueuePass O)) (pass : ℕ) (v w : QueuePass O) (items : List (OpEntry O)) → get_elem? views pass ≡ some v → w.empties ≡ v.empties
      → Every (Same views) items → Every (Same (set views pass w)) items
  same_set views pass v w items at kept all = each_with (Same views) (Same (set views pass w)) items
      (λ e same u e_at. ⊎_elim
      (λ (me : (e.pass ≡ pass) × (w ≡ u)). same v (subst (λ (i : ℕ). get_elem? views i ≡ some v) (sym me.0) at) ∙ sym kept ∙ ap (λ (y : QueuePass O). y.empties) me.1)
      (λ (old : (e.pass ≢ pass) × (get_elem? views e.pass ≡ some u)). same u old.1)
      (set_or_before views pass e.pass w u e_at))
      all

  same_end : (views : List (QueuePass O)) (new : QueuePass O) (items : List (OpEntry O)) → Every (λ (e : OpEntry O). e.pass < length views) items
      → Every (Same views) items → Every (Same (views ++ new ∷ [])) items
  same_end views new items known all = each_with_both (λ (e : OpEntry O). e.pass < length views) (Same views) (Same (views ++ new ∷ [])) items
      (λ e low same u e_at. ⊎_elim (λ old. same u old)
      (λ (end : (e.pass ≡ length views) × (new ≡ u)). let far = end.0 in absurd (omega (arith, low, far)))
      (at_end_or_before views new e.pass u e_at))
      known all

  -- where of all passes only the counts of one change
  counts_keep : (items : List (OpEntry O)) (views : List (QueuePass O)) (pass : ℕ) (v w : QueuePass O) → StandsAt items views pass v → w.seat ≡ v.seat
      → SeatsRule items (seats_of (set views pass w))
  counts_keep items views pass v w s same =
      subst (SeatsRule items) (sym (set_to_itself (seats_of views) pass v.seat (seat_at views pass v s.stands)) ∙ ap (λ (h : QueueSeat O). set (seats_of views) pass h) (sym same) ∙ seats_set views pass w) s.rule.seats

  first_pass : (n : ℕ) (h : QueueSeat O) → get_elem? (new_seat {O = O} 0 1 ∷ []) n ≡ some h → PassRule [] (new_seat 0 1 ∷ []) n h
  first_pass zero h e = subst (PassRule [] (new_seat 0 1 ∷ []) 0) (some-injective (new_seat 0 1) h e) record {
    number = refl;
    counted = tt;
    gone = [];
    suffix = refl;
    behind = eachat_one (λ (w : QueueSeat O). Every (λ (e : OpEntry O). e.pass ≡ 0 → e.number ≤ 0) w.pulled) (new_seat 0 1) tt;
    soon = tt;
  }
  first_pass (suc n) h e = absurd (some-ne-none h (sym e))

module _ (O : Type 0) where
  pub start_meets_queue_rule : StartMeetsQueueRule O
  start_meets_queue_rule = record {
    seats = record {
      splits = λ h e. ap (λ (y : QueueSeat O). y.splits) (sym (some-injective (new_seat 0 1) h e));
      passes = first_pass;
      known = tt;
      popped_known = eachat_one (λ (h : QueueSeat O). Every (λ (e : OpEntry O). e.pass < 1) h.pulled) (new_seat 0 1) tt;
      once = λ n k. omega arith;
      all_there = λ n k h e least most. let none = eachat_one (λ (u : QueueSeat O). length u.own ≡ 0) (new_seat 0 1) refl n h e in absurd (omega (arith, none, least, most));
      rising = eachat_one (λ (h : QueueSeat O). Rises h.pulled) (new_seat 0 1) tt;
    };
    empties = tt;
  }

  pub push_keeps_queue_rule : PushKeepsQueueRule O
  push_keeps_queue_rule items views pass v op s room =
      let x = next_entry op v in
      let w = pushed op v in
      let at = seat_at views pass v s.stands in
      let mine = s.rule.seats.passes pass v.seat at in
      record {
        seats = subst (SeatsRule (items ++ x ∷ [])) (seats_set views pass w) (push_keeps items (seats_of views) pass v.seat x s.rule.seats at room refl refl);
        empties = each_end (Same (set views pass w)) items x (same_set views pass v w items s.stands refl s.rule.empties)
            (λ u e. ⊎_elim
            (λ (me : (x.pass ≡ pass) × (w ≡ u)). ap (λ (y : QueuePass O). y.empties) me.1)
            (λ (old : (x.pass ≢ pass) × (get_elem? views x.pass ≡ some u)). absurd (old.0 mine.number))
            (set_or_before views pass x.pass w u e));
      }

  pub full_push_keeps_queue_rule : FullPushKeepsQueueRule O
  full_push_keeps_queue_rule items views pass v s = record {
    seats = counts_keep items views pass v (found_full v) s refl;
    empties = same_set views pass v (found_full v) items s.stands refl s.rule.empties;
  }

  pub pop_keeps_queue_rule : PopKeepsQueueRule O
  pop_keeps_queue_rule x items views pass v s =
      let w = popped x v in
      record {
        seats = subst (SeatsRule items) (seats_set views pass w) (pop_keeps x items (seats_of views) pass v.seat s.rule.seats (seat_at views pass v s.stands));
        empties = same_set views pass v w items s.stands refl s.rule.empties.1;
      }

  pub empty_pop_keeps_queue_rule : EmptyPopKeepsQueueRule O
  empty_pop_keeps_queue_rule views pass v s = record { seats = counts_keep [] views pass v (found_none v) s refl; empties = tt }

  pub new_pass_keeps_queue_rule : NewPassKeepsQueueRule O
  new_pass_keeps_queue_rule items views pass v s first =
      let w = split_pass v in
      let new : QueuePass O = fresh_pass v.seat.splits 0 in
      let len : length (seats_of views) ≡ length (set views pass w) = length-map views (λ (u : QueuePass O). u.seat) ∙ sym (length-set views pass w) in
      record {
        seats = subst (SeatsRule items) (ap (λ (l : List (QueueSeat O)). l ++ new.seat ∷ []) (seats_set views pass w) ∙ seats_end (set views pass w) new)
            (new_pass_keeps items (seats_of views) pass v.seat s.rule.seats (seat_at views pass v s.stands) first);
        empties = same_end (set views pass w) new items (subst (λ (n : ℕ). Every (λ (e : OpEntry O). e.pass < n) items) len s.rule.seats.known)
            (same_set views pass v w items s.stands refl s.rule.empties);
      }
