-- The five parts of the rule of the queue of operations follow from it.
use Rattle.std.proofs.Common.{◌≡◌, ◌≢◌, ℕ, ◌+◌, ◌-◌, ◌<◌, ◌≤◌, [], ◌++◌, length, sym, refl, ap, ◌∙◌, subst, ⊎_elim, arith}
use Rattle.std.proofs.lemmas.Bool.{cases_lt}
use mathlib.Core.Option.{some}
use lib.ListN.{get_elem?}
use Rattle.aio_rules.specs.declared.operations.OpEntry.{OpEntry}
use Rattle.aio_rules.specs.declared.operations.PushedOp.{PushedOp}
use Rattle.aio_rules.specs.Operations.{Counts, QueuePass, of_pass, times, times_popped, seats_of, queue_limit}
use Rattle.aio_rules.specs.OperationLaws.{RuleHasItsParts}
use Rattle.aio_rules.proofs.SeatLists.{in_range}
use Rattle.aio_rules.proofs.OperationLists.{each_with, each_at, found_at, each_of_pass, none_of_pass, counts_rest, Within}
use Rattle.aio_rules.proofs.OperationSteps.{own_within, queued_within}
use Rattle.aio_rules.proofs.OperationRules.{seat_at}

module _ (O : Type 0) where
  pub rule_has_its_parts : RuleHasItsParts O
  rule_has_its_parts items views r =
      let seats = seats_of views in
      record {
        different = λ i j v w i_at j_at same. sym (r.seats.passes i v.seat (seat_at views i v i_at)).number ∙ same ∙ (r.seats.passes j w.seat (seat_at views j w j_at)).number;
        below = λ i v first i_at first_at.
            let low = in_range seats i v.seat (seat_at views i v i_at) in
            let number = (r.seats.passes i v.seat (seat_at views i v i_at)).number in
            let splits = r.seats.splits first.seat (seat_at views 0 first first_at) in
            omega (arith, low, number, splits);
        suffix = λ i v i_at. let mine = r.seats.passes i v.seat (seat_at views i v i_at) in
            (mine.gone, mine.suffix ∙ ap (λ (n : ℕ). mine.gone ++ of_pass n items) (sym mine.number));
        gapless = λ pass. ⊎_elim
            (λ (below : pass < length seats).
            let its = found_at seats pass below in
            let rule = r.seats.passes pass its.0 its.1 in
            let rest : Counts pass (1 + length rule.gone) (of_pass pass items) = counts_rest pass 1 rule.gone (of_pass pass items) (subst (Counts pass 1) rule.suffix rule.counted) in
            let found : (k : ℕ) × Counts pass k (of_pass pass items) = (1 + length rule.gone, rest) in found)
            (λ (above : length seats ≤ pass).
            let none : of_pass pass items ≡ [] = none_of_pass pass items (each_with (λ (e : OpEntry O). e.pass < length seats) (λ (e : OpEntry O). e.pass ≢ pass) items
            (λ e low is. omega (arith, low, is, above)) r.seats.known) in
            let found : (k : ℕ) × Counts pass k (of_pass pass items) = (0, subst (Counts pass 0) (sym none) tt) in found)
            (cases_lt pass (length seats));
        once = r.seats.once;
        all_there = λ i k v i_at least most.
            let at = seat_at views i v i_at in
            subst (λ (n : ℕ). times n k items + times_popped n k seats ≡ 1) (sym (r.seats.passes i v.seat at).number) (r.seats.all_there i k v.seat at least most);
        rising = λ i v i_at. r.seats.rising i v.seat (seat_at views i v i_at);
        bound = λ i v from to e queued i_at e_at queued_at same.
            let its = found_at seats queued.pass (each_at (λ (f : OpEntry O). f.pass < length seats) items to queued r.seats.known queued_at) in
            let rule = r.seats.passes queued.pass its.0 its.1 in
            let gone = each_at (λ (f : OpEntry O). f.pass ≡ queued.pass → f.number ≤ length rule.gone) v.seat.pulled from e (rule.behind i v.seat (seat_at views i v i_at)) e_at same in
            let stays = each_at (λ (f : OpEntry O). f.pass ≡ queued.pass → Within queued.pass (1 + length rule.gone) (1 + length its.0.own) f) items to queued
            (each_of_pass (Within queued.pass (1 + length rule.gone) (1 + length its.0.own)) queued.pass items (queued_within items seats queued.pass its.0 rule)) queued_at refl in
            let low = stays.1 in
            omega (arith, gone, low);
        index = λ i v at k p i_at p_at queued_at.
            let mine = r.seats.passes i v.seat (seat_at views i v i_at) in
            let within = each_at (λ (q : PushedOp O). Within i 1 (1 + length v.seat.own) q.entry) v.seat.own k p (own_within items seats i v.seat mine) p_at in (
              each_at (λ (q : PushedOp O). (index : ℕ) → get_elem? items index ≡ some q.entry → index + (length v.seat.pulled - q.pulled) < queue_limit) v.seat.own k p mine.soon p_at at queued_at,
              each_at (λ (e : OpEntry O). (u : QueuePass O) → get_elem? views e.pass ≡ some u → e.empties ≡ u.empties) items at p.entry r.empties queued_at v
                  (subst (λ (n : ℕ). get_elem? views n ≡ some v) (sym within.0) i_at),
            );
      }
