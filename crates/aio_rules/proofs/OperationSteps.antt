-- Each kind of step keeps the part of the rule of the queue of operations that speaks of seats.
use Rattle.std.proofs.Common.{◌≡◌, ◌≢◌, ◌⊎◌, ℕ, suc, ◌+◌, ◌-◌, ◌<◌, ◌≤◌, true, false, true≢false, eqb, List, [], ◌∷◌, ◌++◌, length, set, sym, refl, ap, ◌∙◌, subst, inl, inr, ⊎_elim, append_assoc, length-set, length-append, arith}
use Rattle.std.specs.List.{AllByRecursion as Every}
use Rattle.std.proofs.lemmas.Bool.{cases_eq, cases_Bool, eqb-true, eq-eqb, and_parts, and_from}
use Rattle.std.proofs.lemmas.List.{map_push, length_push, length-map}
use mathlib.Core.Option.{some}
use lib.ListN.{get_elem?}
use Rattle.aio_rules.specs.declared.operations.OpEntry.{OpEntry}
use Rattle.aio_rules.specs.declared.operations.PushedOp.{PushedOp}
use Rattle.aio_rules.specs.declared.operations.QueueSeat.{QueueSeat}
use Rattle.aio_rules.specs.SharedLock.{one_if}
use Rattle.aio_rules.specs.Operations.{AllThere, EachAt, Counts, Rises, PassRule, SeatsRule, seat_of, new_seat, with_push, with_pop, with_split, entries_of, of_pass, times, times_popped, queue_limit}
use Rattle.aio_rules.proofs.SeatLists.{in_range, set_or_before, at_end_or_before}
use Rattle.aio_rules.proofs.OperationLists.{each_end, each_with, each_with_both, each_map, found_at, eachat_set, eachat_end, of_pass_here, of_pass_other, of_pass_push_here, of_pass_push_other, each_of_pass, none_of_pass, counts_rest, counts_end, counts_within, Within, Is, times_append, times_none, times_popped_none, times_popped_set, times_popped_end, rises_end}

module _ {O : Type 0} where
  -- a fact of all popped entries, after a step that pops none
  frame_set : (P : List (OpEntry O) → Type 0) (seats : List (QueueSeat O)) (at : ℕ) (h w : QueueSeat O) → get_elem? seats at ≡ some h → w.pulled ≡ h.pulled
      → EachAt seats (λ u. P u.pulled) → EachAt (set seats at w) (λ u. P u.pulled)
  frame_set P seats at h w e same all = eachat_set (λ u. P u.pulled) seats at w (subst P (sym same) (all at h e)) all

  pub own_length : (items : List (OpEntry O)) (seats : List (QueueSeat O)) (pass : ℕ) (h : QueueSeat O) (r : PassRule items seats pass h)
      → length h.own ≡ length r.gone + length (of_pass pass items)
  own_length items seats pass h r =
      sym (length-map h.own (λ (p : PushedOp O). p.entry)) ∙ ap (λ (l : List (OpEntry O)). length l) r.suffix ∙ length-append r.gone (of_pass pass items)

  -- own entries: their pass and the range of their numbers
  pub own_within : (items : List (OpEntry O)) (seats : List (QueueSeat O)) (pass : ℕ) (h : QueueSeat O) → PassRule items seats pass h
      → Every (λ (p : PushedOp O). Within pass 1 (1 + length h.own) p.entry) h.own
  own_within items seats pass h r =
      let same : length (entries_of h.own) ≡ length h.own = length-map h.own (λ (p : PushedOp O). p.entry) in
      each_map (λ (p : PushedOp O). p.entry) (Within pass 1 (1 + length h.own)) h.own
      (subst (λ (n : ℕ). Every (Within pass 1 (1 + n)) (entries_of h.own)) same (counts_within pass 1 (entries_of h.own) r.counted))

  -- queued ones, whose numbers begin after those that are gone
  pub queued_within : (items : List (OpEntry O)) (seats : List (QueueSeat O)) (pass : ℕ) (h : QueueSeat O) (r : PassRule items seats pass h)
      → Every (Within pass (1 + length r.gone) (1 + length h.own)) (of_pass pass items)
  queued_within items seats pass h r =
      let same : (1 + length r.gone) + length (of_pass pass items) ≡ 1 + length h.own = let l = own_length items seats pass h r in omega arith in
      subst (λ (n : ℕ). Every (Within pass (1 + length r.gone) n) (of_pass pass items)) same
      (counts_within pass (1 + length r.gone) (of_pass pass items) (counts_rest pass 1 r.gone (of_pass pass items) (subst (Counts pass 1) r.suffix r.counted)))

  -- Where each entry is in as many places as before, and no pass has pushed more, all that was pushed is there still.
  abbrev OldOrEmpty : List (QueueSeat O) → List (QueueSeat O) → Type 0
  OldOrEmpty seats after = (pass : ℕ) (h : QueueSeat O) → get_elem? after pass ≡ some h
      → ((old : QueueSeat O) × (get_elem? seats pass ≡ some old) × (length h.own ≡ length old.own)) ⊎ (length h.own ≡ 0)

  there_as_before : (items left : List (OpEntry O)) (seats after : List (QueueSeat O)) → AllThere items seats
      → ((pass k : ℕ) → times pass k left + times_popped pass k after ≡ times pass k items + times_popped pass k seats) → OldOrEmpty seats after → AllThere left after
  there_as_before items left seats after all same olds pass k h at least most = ⊎_elim
      (λ was. let long = was.2 in let one = all pass k was.0 was.1 least (omega (arith, long, most)) in let as_many = same pass k in omega (arith, one, as_many))
      (λ none. absurd (omega (arith, none, least, most)))
      (olds pass h at)

  old_set : (seats : List (QueueSeat O)) (at : ℕ) (h w : QueueSeat O) → get_elem? seats at ≡ some h → length w.own ≡ length h.own → OldOrEmpty seats (set seats at w)
  old_set seats at h w stands same n u e = ⊎_elim
      (λ (me : (n ≡ at) × (w ≡ u)). inl (h, subst (λ (i : ℕ). get_elem? seats i ≡ some h) (sym me.0) stands, ap (λ (y : QueueSeat O). length y.own) (sym me.1) ∙ same))
      (λ (old : (n ≢ at) × (get_elem? seats n ≡ some u)). inl (u, old.1, refl))
      (set_or_before seats at n w u e)

  old_end : (seats after : List (QueueSeat O)) (new : QueueSeat O) → OldOrEmpty seats after → length new.own ≡ 0 → OldOrEmpty seats (after ++ new ∷ [])
  old_end seats after new olds none n u e = ⊎_elim (olds n u) (λ end. inr (ap (λ (y : QueueSeat O). length y.own) (sym end.1) ∙ none)) (at_end_or_before after new n u e)

  -- ## A push

  push_mine : (items : List (OpEntry O)) (seats : List (QueueSeat O)) (pass : ℕ) (h : QueueSeat O) (x : OpEntry O) → get_elem? seats pass ≡ some h
      → PassRule items seats pass h → length items < queue_limit → x.pass ≡ pass → x.number ≡ length h.own + 1
      → PassRule (items ++ x ∷ []) (set seats pass (with_push x h)) pass (with_push x h)
  push_mine items seats pass h x at r room is number =
      let w = with_push x h in
      let new : PushedOp O = record { entry = x; pulled = length h.pulled } in
      let grown : entries_of (h.own ++ new ∷ []) ≡ entries_of h.own ++ x ∷ [] = map_push (λ (p : PushedOp O). p.entry) h.own new in
      let long : length (entries_of h.own) ≡ length h.own = length-map h.own (λ (p : PushedOp O). p.entry) in
      let Soon : PushedOp O → Type 0 = λ p. (index : ℕ) → get_elem? (items ++ x ∷ []) index ≡ some p.entry → index + (length h.pulled - p.pulled) < queue_limit in
      record {
        number = r.number;
        counted = subst (Counts pass 1) (sym grown) (counts_end pass 1 (entries_of h.own) x r.counted is (omega (arith, number, long)));
        gone = r.gone;
        suffix = grown ∙ ap (λ (l : List (OpEntry O)). l ++ x ∷ []) r.suffix ∙ append_assoc r.gone (of_pass pass items) (x ∷ [])
            ∙ ap (λ (l : List (OpEntry O)). r.gone ++ l) (sym (of_pass_push_here pass items x is));
        behind = frame_set (λ l. Every (λ (e : OpEntry O). e.pass ≡ pass → e.number ≤ length r.gone) l) seats pass h w at refl r.behind;
        soon = each_end Soon h.own new
            (each_with_both (λ (p : PushedOp O). Within pass 1 (1 + length h.own) p.entry) (λ (p : PushedOp O). (index : ℕ) → get_elem? items index ≡ some p.entry → index + (length h.pulled - p.pulled) < queue_limit) Soon h.own
            (λ p within soon index e. ⊎_elim (λ old. soon index old)
            (λ (end : (index ≡ length items) × (x ≡ p.entry)). let high = within.2 in let same = ap (λ (y : OpEntry O). y.number) end.1 in absurd (omega (arith, number)))
            (at_end_or_before items x index p.entry e))
            (own_within items seats pass h r) r.soon)
            (λ index e. let below = in_range (items ++ x ∷ []) index x e in let more = length_push items x in omega arith);
      }

  push_other : (items : List (OpEntry O)) (seats : List (QueueSeat O)) (pass n : ℕ) (h u : QueueSeat O) (x : OpEntry O) → get_elem? seats pass ≡ some h
      → PassRule items seats n u → x.pass ≢ n → PassRule (items ++ x ∷ []) (set seats pass (with_push x h)) n u
  push_other items seats pass n h u x at r other = record {
    number = r.number;
    counted = r.counted;
    gone = r.gone;
    suffix = r.suffix ∙ ap (λ (l : List (OpEntry O)). r.gone ++ l) (sym (of_pass_push_other n items x other));
    behind = frame_set (λ l. Every (λ (e : OpEntry O). e.pass ≡ n → e.number ≤ length r.gone) l) seats pass h (with_push x h) at refl r.behind;
    soon = each_with_both (λ (p : PushedOp O). Within n 1 (1 + length u.own) p.entry)
        (λ (p : PushedOp O). (index : ℕ) → get_elem? items index ≡ some p.entry → index + (length u.pulled - p.pulled) < queue_limit)
        (λ (p : PushedOp O). (index : ℕ) → get_elem? (items ++ x ∷ []) index ≡ some p.entry → index + (length u.pulled - p.pulled) < queue_limit) u.own
        (λ p within soon index e. ⊎_elim (λ old. soon index old)
        (λ (end : (index ≡ length items) × (x ≡ p.entry)). absurd (other (ap (λ (y : OpEntry O). y.pass) end.1 ∙ within.0)))
        (at_end_or_before items x index p.entry e))
        (own_within items seats n u r) r.soon;
  }

  pub push_keeps : (items : List (OpEntry O)) (seats : List (QueueSeat O)) (pass : ℕ) (h : QueueSeat O) (x : OpEntry O) → SeatsRule items seats → get_elem? seats pass ≡ some h
      → length items < queue_limit → x.pass ≡ h.number → x.number ≡ length h.own + 1 → SeatsRule (items ++ x ∷ []) (set seats pass (with_push x h))
  push_keeps items seats pass h x r at room named number =
      let w = with_push x h in
      let mine = r.passes pass h at in
      let is : x.pass ≡ pass = named ∙ mine.number in
      let len : length (set seats pass w) ≡ length seats = length-set seats pass w in
      let below = in_range seats pass h at in
      let long = own_length items seats pass h mine in
      -- an entry that is not the new one is in as many places as before
      let as_many : (n k : ℕ) → Is n k x ≡ false → times n k (items ++ x ∷ []) + times_popped n k (set seats pass w) ≡ times n k items + times_popped n k seats = λ n k miss.
      let kept = times_popped_set n k seats pass h w at in
      let more = times_append n k items (x ∷ []) in
      let zero_is : one_if (Is n k x) ≡ 0 = ap one_if miss in
      omega (arith, kept, more, zero_is) in
      -- the new one is in one
      let there : (n k : ℕ) → Is n k x ≡ true → times n k (items ++ x ∷ []) + times_popped n k (set seats pass w) ≡ 1 = λ n k hit.
      let kept = times_popped_set n k seats pass h w at in
      let more = times_append n k items (x ∷ []) in
      let parts = and_parts (eqb x.pass n) (eqb x.number k) hit in
      let one : one_if (Is n k x) ≡ 1 = ap one_if hit in
      let same_pass : n ≡ pass = sym (eqb-true x.pass n parts.0) ∙ is in
      let same_number : k ≡ length h.own + 1 = sym (eqb-true x.number k parts.1) ∙ number in
      let none : times n k items ≡ 0 = times_none n k items
      (each_with (λ (e : OpEntry O). e.pass ≡ pass → Within pass (1 + length mine.gone) (1 + length h.own) e) (λ (e : OpEntry O). e.pass ≡ n → e.number ≢ k) items
      (λ e within same number_is. let high = (within (same ∙ same_pass)).2 in absurd (omega (arith, high, number_is, same_number)))
      (each_of_pass (Within pass (1 + length mine.gone) (1 + length h.own)) pass items (queued_within items seats pass h mine))) in
      let none_popped : times_popped n k seats ≡ 0 = times_popped_none n k seats
      (λ j v e. each_with (λ (e : OpEntry O). e.pass ≡ pass → e.number ≤ length mine.gone) (λ (e : OpEntry O). e.pass ≡ n → e.number ≢ k) v.pulled
      (λ f before same number_is. let low = before (same ∙ same_pass) in absurd (omega (arith, low, number_is, same_number, long)))
      (mine.behind j v e)) in
      omega (arith, kept, more, one, none, none_popped) in
      record {
        splits = λ u e. ⊎_elim
            (λ (me : (0 ≡ pass) × (w ≡ u)). ap (λ (y : QueueSeat O). y.splits) (sym me.1) ∙ r.splits h (subst (λ (i : ℕ). get_elem? seats i ≡ some h) (sym me.0) at) ∙ sym len)
            (λ (old : (0 ≢ pass) × (get_elem? seats 0 ≡ some u)). r.splits u old.1 ∙ sym len)
            (set_or_before seats pass 0 w u e);
        passes = λ n u e. ⊎_elim
            (λ (me : (n ≡ pass) × (w ≡ u)). subst (λ (y : ℕ × QueueSeat O). PassRule (items ++ x ∷ []) (set seats pass w) y.0 y.1) (λ i. (sym me.0 i, me.1 i)) (push_mine items seats pass h x at mine room is number))
            (λ (old : (n ≢ pass) × (get_elem? seats n ≡ some u)). push_other items seats pass n h u x at (r.passes n u old.1) (λ same. old.0 (sym same ∙ is)))
            (set_or_before seats pass n w u e);
        known = subst (λ (n : ℕ). Every (λ (e : OpEntry O). e.pass < n) (items ++ x ∷ [])) (sym len)
            (each_end (λ (e : OpEntry O). e.pass < length seats) items x r.known (subst (λ (n : ℕ). n < length seats) (sym is) below));
        popped_known = subst (λ (n : ℕ). EachAt (set seats pass w) (λ v. Every (λ (e : OpEntry O). e.pass < n) v.pulled)) (sym len)
            (frame_set (λ l. Every (λ (e : OpEntry O). e.pass < length seats) l) seats pass h w at refl r.popped_known);
        once = λ n k. ⊎_elim
            (λ (hit : Is n k x ≡ true). let one = there n k hit in omega (arith, one))
            (λ (miss : Is n k x ≡ false). let same = as_many n k miss in let few = r.once n k in omega (arith, same, few))
            (cases_Bool (Is n k x));
        all_there = λ n k u e least most. ⊎_elim
            (λ (hit : Is n k x ≡ true). there n k hit)
            (λ (miss : Is n k x ≡ false). as_many n k miss ∙ ⊎_elim
            (λ (me : (n ≡ pass) × (w ≡ u)).
            let grown : length u.own ≡ length h.own + 1 = ap (λ (y : QueueSeat O). length y.own) (sym me.1) ∙ length_push h.own (record { entry = x; pulled = length h.pulled }) in
            let other : k ≢ length h.own + 1 = λ last. true≢false (sym (and_from (eqb x.pass n) (eqb x.number k) (eq-eqb x.pass n (is ∙ sym me.0)) (eq-eqb x.number k (number ∙ sym last))) ∙ miss) in
            r.all_there n k h (subst (λ (i : ℕ). get_elem? seats i ≡ some h) (sym me.0) at) least (omega (arith, other, grown, most)))
            (λ (old : (n ≢ pass) × (get_elem? seats n ≡ some u)). r.all_there n k u old.1 least most)
            (set_or_before seats pass n w u e))
            (cases_Bool (Is n k x));
        rising = frame_set Rises seats pass h w at refl r.rising;
      }

  -- ## A pop

  -- what stands at the front of the queue is what its pass has as the first that is not gone
  pub first_is_next : (x : OpEntry O) (items : List (OpEntry O)) (seats : List (QueueSeat O)) (n : ℕ) (u : QueueSeat O) (r : PassRule (x ∷ items) seats n u)
      → x.pass ≡ n → x.number ≡ 1 + length r.gone
  first_is_next x items seats n u r is =
      (counts_rest n 1 r.gone (x ∷ of_pass n items) (subst (Counts n 1) (r.suffix ∙ ap (λ (l : List (OpEntry O)). r.gone ++ l) (of_pass_here n x items is)) r.counted)).1

  pop_pass : (x : OpEntry O) (items : List (OpEntry O)) (seats : List (QueueSeat O)) (pass n : ℕ) (h u : QueueSeat O) (pulled : List (OpEntry O)) → get_elem? seats pass ≡ some h
      → PassRule (x ∷ items) seats n u → length pulled ≤ length u.pulled + 1
      → PassRule items (set seats pass (with_pop x h)) n (seat_of u.number u.splits u.own pulled)
  pop_pass x items seats pass n h u pulled at r more =
      let w = with_pop x h in
      let soon' : Every (λ (p : PushedOp O). (index : ℕ) → get_elem? items index ≡ some p.entry → index + (length pulled - p.pulled) < queue_limit) u.own =
      each_with (λ (p : PushedOp O). (index : ℕ) → get_elem? (x ∷ items) index ≡ some p.entry → index + (length u.pulled - p.pulled) < queue_limit)
      (λ (p : PushedOp O). (index : ℕ) → get_elem? items index ≡ some p.entry → index + (length pulled - p.pulled) < queue_limit) u.own
      (λ p soon index e. let before = soon (suc index) e in omega (arith, before, more)) r.soon in
      ⊎_elim
      (λ (is : x.pass ≡ n).
      let gone' = r.gone ++ x ∷ [] in
      let long : length gone' ≡ length r.gone + 1 = length_push r.gone x in
      let next = first_is_next x items seats n u r is in
      let P : QueueSeat O → Type 0 = λ v. Every (λ (e : OpEntry O). e.pass ≡ n → e.number ≤ length gone') v.pulled in
      let older : EachAt seats P = λ j v e. each_with (λ (e : OpEntry O). e.pass ≡ n → e.number ≤ length r.gone) (λ (e : OpEntry O). e.pass ≡ n → e.number ≤ length gone') v.pulled
      (λ f before same. let low = before same in omega (arith, low, long)) (r.behind j v e) in
      record {
        number = r.number;
        counted = r.counted;
        gone = gone';
        suffix = r.suffix ∙ ap (λ (l : List (OpEntry O)). r.gone ++ l) (of_pass_here n x items is) ∙ sym (append_assoc r.gone (x ∷ []) (of_pass n items));
        behind = eachat_set P seats pass w
            (each_end (λ (e : OpEntry O). e.pass ≡ n → e.number ≤ length gone') h.pulled x (older pass h at) (λ _. omega (arith, next, long))) older;
        soon = soon';
      })
      (λ (other : x.pass ≢ n).
      let P : QueueSeat O → Type 0 = λ v. Every (λ (e : OpEntry O). e.pass ≡ n → e.number ≤ length r.gone) v.pulled in
      record {
        number = r.number;
        counted = r.counted;
        gone = r.gone;
        suffix = r.suffix ∙ ap (λ (l : List (OpEntry O)). r.gone ++ l) (of_pass_other n x items other);
        behind = eachat_set P seats pass w
            (each_end (λ (e : OpEntry O). e.pass ≡ n → e.number ≤ length r.gone) h.pulled x (r.behind pass h at) (λ same. absurd (other same))) r.behind;
        soon = soon';
      })
      (cases_eq x.pass n)

  pub pop_keeps : (x : OpEntry O) (items : List (OpEntry O)) (seats : List (QueueSeat O)) (pass : ℕ) (h : QueueSeat O) → SeatsRule (x ∷ items) seats → get_elem? seats pass ≡ some h
      → SeatsRule items (set seats pass (with_pop x h))
  pop_keeps x items seats pass h r at =
      let w = with_pop x h in
      let len : length (set seats pass w) ≡ length seats = length-set seats pass w in
      let its = found_at seats x.pass r.known.0 in
      let rule = r.passes x.pass its.0 its.1 in
      let next = first_is_next x items seats x.pass its.0 rule refl in
      -- the entry leaves one place for another
      let as_many : (n k : ℕ) → times n k items + times_popped n k (set seats pass w) ≡ times n k (x ∷ items) + times_popped n k seats = λ n k.
      let moved = times_popped_set n k seats pass h w at in
      let more = times_append n k h.pulled (x ∷ []) in
      omega (arith, moved, more) in
      record {
        splits = λ u e. ⊎_elim
            (λ (me : (0 ≡ pass) × (w ≡ u)). ap (λ (y : QueueSeat O). y.splits) (sym me.1) ∙ r.splits h (subst (λ (i : ℕ). get_elem? seats i ≡ some h) (sym me.0) at) ∙ sym len)
            (λ (old : (0 ≢ pass) × (get_elem? seats 0 ≡ some u)). r.splits u old.1 ∙ sym len)
            (set_or_before seats pass 0 w u e);
        passes = λ n u e. ⊎_elim
            (λ (me : (n ≡ pass) × (w ≡ u)). subst (λ (y : ℕ × QueueSeat O). PassRule items (set seats pass w) y.0 y.1) (λ i. (sym me.0 i, me.1 i))
            (pop_pass x items seats pass pass h h (h.pulled ++ x ∷ []) at (r.passes pass h at) (let l = length_push h.pulled x in omega (arith, l))))
            (λ (old : (n ≢ pass) × (get_elem? seats n ≡ some u)). pop_pass x items seats pass n h u u.pulled at (r.passes n u old.1) (omega arith))
            (set_or_before seats pass n w u e);
        known = subst (λ (n : ℕ). Every (λ (e : OpEntry O). e.pass < n) items) (sym len) r.known.1;
        popped_known = subst (λ (n : ℕ). EachAt (set seats pass w) (λ v. Every (λ (e : OpEntry O). e.pass < n) v.pulled)) (sym len)
            (eachat_set (λ v. Every (λ (e : OpEntry O). e.pass < length seats) v.pulled) seats pass w
            (each_end (λ (e : OpEntry O). e.pass < length seats) h.pulled x (r.popped_known pass h at) r.known.0) r.popped_known);
        once = λ n k. let same = as_many n k in let few = r.once n k in omega (arith, same, few);
        all_there = there_as_before (x ∷ items) items seats (set seats pass w) r.all_there as_many (old_set seats pass h w at refl);
        rising = eachat_set (λ v. Rises v.pulled) seats pass w
            (rises_end h.pulled x (r.rising pass h at)
            (each_with (λ (e : OpEntry O). e.pass ≡ x.pass → e.number ≤ length rule.gone) (λ (e : OpEntry O). x.pass ≡ e.pass → e.number < x.number) h.pulled
            (λ e before same. let low = before (sym same) in omega (arith, low, next)) (rule.behind pass h at)))
            r.rising;
      }

  -- ## Making a pass

  make_pass : (items : List (OpEntry O)) (seats : List (QueueSeat O)) (pass n splits : ℕ) (h u new : QueueSeat O) → get_elem? seats pass ≡ some h → new.pulled ≡ []
      → PassRule items seats n u → PassRule items (set seats pass (with_split h) ++ new ∷ []) n (seat_of u.number splits u.own u.pulled)
  make_pass items seats pass n splits h u new at none r =
      let P : List (OpEntry O) → Type 0 = λ l. Every (λ (e : OpEntry O). e.pass ≡ n → e.number ≤ length r.gone) l in
      record {
        number = r.number;
        counted = r.counted;
        gone = r.gone;
        suffix = r.suffix;
        behind = eachat_end (λ v. P v.pulled) (set seats pass (with_split h)) new (subst P (sym none) tt) (frame_set P seats pass h (with_split h) at refl r.behind);
        soon = r.soon;
      }

  pub new_pass_keeps : (items : List (OpEntry O)) (seats : List (QueueSeat O)) (pass : ℕ) (h : QueueSeat O) → SeatsRule items seats → get_elem? seats pass ≡ some h → h.number ≡ 0
      → SeatsRule items (set seats pass (with_split h) ++ new_seat h.splits 0 ∷ [])
  new_pass_keeps items seats pass h r at first =
      let left = with_split h in
      let new : QueueSeat O = new_seat h.splits 0 in
      let after : List (QueueSeat O) = set seats pass left ++ new ∷ [] in
      let mine = r.passes pass h at in
      let is_first : pass ≡ 0 = sym mine.number ∙ first in
      let splits : h.splits ≡ length seats = r.splits h (subst (λ (i : ℕ). get_elem? seats i ≡ some h) is_first at) in
      let below = in_range seats pass h at in
      let same : length (set seats pass left) ≡ length seats = length-set seats pass left in
      let len : length after ≡ length seats + 1 = length_push (set seats pass left) new ∙ ap (λ (n : ℕ). n + 1) same in
      let as_many : (n k : ℕ) → times n k items + times_popped n k after ≡ times n k items + times_popped n k seats = λ n k.
      let moved = times_popped_set n k seats pass h left at in
      let more = times_popped_end n k (set seats pass left) new in
      omega (arith, moved, more) in
      let Known : ℕ → List (OpEntry O) → Type 0 = λ n l. Every (λ (e : OpEntry O). e.pass < n) l in
      let wider : (l : List (OpEntry O)) → Known (length seats) l → Known (length after) l =
      λ l. each_with (λ (e : OpEntry O). e.pass < length seats) (λ (e : OpEntry O). e.pass < length after) l (λ e low. omega (arith, low, len)) in
      let stranger : (l : List (OpEntry O)) (n : ℕ) → n ≡ length seats → Known (length seats) l → Every (λ (e : OpEntry O). e.pass ≢ n) l =
      λ l n is. each_with (λ (e : OpEntry O). e.pass < length seats) (λ (e : OpEntry O). e.pass ≢ n) l (λ e low same. omega (arith, low, same, is)) in
      record {
        splits = λ u e. ⊎_elim
            (λ before. ⊎_elim
            (λ (me : (0 ≡ pass) × (left ≡ u)). ap (λ (y : QueueSeat O). y.splits) (sym me.1) ∙ ap (λ (n : ℕ). n + 1) splits ∙ sym len)
            (λ (old : (0 ≢ pass) × (get_elem? seats 0 ≡ some u)). absurd (old.0 (sym is_first)))
            (set_or_before seats pass 0 left u before))
            (λ (end : (0 ≡ length (set seats pass left)) × (new ≡ u)). let zero_long = end.0 in absurd (omega (arith, zero_long, same, below)))
            (at_end_or_before (set seats pass left) new 0 u e);
        passes = λ n u e. ⊎_elim
            (λ before. ⊎_elim
            (λ (me : (n ≡ pass) × (left ≡ u)). subst (λ (y : ℕ × QueueSeat O). PassRule items after y.0 y.1) (λ i. (sym me.0 i, me.1 i))
            (make_pass items seats pass pass (h.splits + 1) h h new at refl mine))
            (λ (old : (n ≢ pass) × (get_elem? seats n ≡ some u)). make_pass items seats pass n u.splits h u new at refl (r.passes n u old.1))
            (set_or_before seats pass n left u before))
            (λ (end : (n ≡ length (set seats pass left)) × (new ≡ u)). subst (PassRule items after n) end.1
            (let far : n ≡ length seats = end.0 ∙ same in
            let P : List (OpEntry O) → Type 0 = λ l. Every (λ (e : OpEntry O). e.pass ≡ n → e.number ≤ 0) l in
            let unseen : (l : List (OpEntry O)) → Known (length seats) l → P l = λ l known. each_with (λ (e : OpEntry O). e.pass ≢ n) (λ (e : OpEntry O). e.pass ≡ n → e.number ≤ 0) l (λ e other is. absurd (other is)) (stranger l n far known) in
            record {
              number = splits ∙ sym far;
              counted = tt;
              gone = [];
              suffix = sym (none_of_pass n items (stranger items n far r.known));
              behind = eachat_end (λ v. P v.pulled) (set seats pass left) new tt (frame_set P seats pass h left at refl (λ j v at_j. unseen v.pulled (r.popped_known j v at_j)));
              soon = tt;
            }))
            (at_end_or_before (set seats pass left) new n u e);
        known = wider items r.known;
        popped_known = eachat_end (λ v. Known (length after) v.pulled) (set seats pass left) new tt
            (frame_set (Known (length after)) seats pass h left at refl (λ j v at_j. wider v.pulled (r.popped_known j v at_j)));
        once = λ n k. let as_before = as_many n k in let few = r.once n k in omega (arith, as_before, few);
        all_there = there_as_before items items seats after r.all_there as_many (old_end seats (set seats pass left) new (old_set seats pass h left at refl) refl);
        rising = eachat_end (λ v. Rises v.pulled) (set seats pass left) new tt (frame_set Rises seats pass h left at refl r.rising);
      }
