-- What faulty queues of operations would come to, which the rule and its laws refuse.
use Rattle.std.proofs.Common.{◌≡◌, ◌≢◌, ℕ, suc, ◌+◌, ◌≤◌, eqb, List, [], ◌∷◌, ◌++◌, length, sym, refl, ap, ◌∙◌, subst, arith}
use Rattle.std.proofs.lemmas.Bool.{eq-eqb, and_from}
use Rattle.std.proofs.lemmas.List.{same_from_push}
use mathlib.Core.Option.{some}
use lib.ListN.{get_elem?}
use Rattle.aio_rules.specs.declared.operations.OpEntry.{OpEntry}
use Rattle.aio_rules.specs.declared.operations.PushedOp.{PushedOp}
use Rattle.aio_rules.specs.declared.operations.QueueSeat.{QueueSeat}
use Rattle.aio_rules.specs.SharedLock.{one_if}
use Rattle.aio_rules.specs.Operations.{Counts, QueueRule, QueuePass, SeatsRule, of_pass, seats_of, times, times_popped, queue_limit}
use Rattle.aio_rules.specs.OperationLaws.{StandsAt}
use Rattle.aio_rules.proofs.OperationLists.{Is, found_at, of_pass_here}
use Rattle.aio_rules.proofs.OperationSteps.{first_is_next, own_length}
use Rattle.aio_rules.proofs.OperationParts.{rule_has_its_parts}

module _ {O : Type 0} where
  -- a pop that takes an entry past an earlier one of its pass
  overtaken : (items : List (OpEntry O)) (views : List (QueuePass O)) (i : ℕ) (v : QueuePass O) (e f : OpEntry O) → StandsAt items views i v → get_elem? v.seat.pulled 0 ≡ some e
      → get_elem? items 0 ≡ some f → e.pass ≡ f.pass → f.number ≤ e.number → ⊥
  overtaken items views i v e f s e_at f_at same late = let low = (rule_has_its_parts O items views s.rule).bound i v 0 0 e f s.stands e_at f_at same in omega (arith, low, late)

  -- a push that puts its operation into the queue twice
  queued_twice : (x : OpEntry O) (views : List (QueuePass O)) → QueueRule (x ∷ x ∷ []) views → ⊥
  queued_twice x views r =
      let hit : one_if (Is x.pass x.number x) ≡ 1 = ap one_if (and_from (eqb x.pass x.pass) (eqb x.number x.number) (eq-eqb x.pass x.pass refl) (eq-eqb x.number x.number refl)) in
      let few = r.seats.once x.pass x.number in
      omega (arith, few, hit)

  -- a pop that no pass shows: an entry that its pass pushed is neither queued nor popped
  dropped : (items : List (OpEntry O)) (views : List (QueuePass O)) (i k : ℕ) (v : QueuePass O) → StandsAt items views i v → 1 ≤ k → k ≤ length v.seat.own
      → times v.seat.number k items ≡ 0 → times_popped v.seat.number k (seats_of views) ≡ 0 → ⊥
  dropped items views i k v s least most queued popped = let one = (rule_has_its_parts O items views s.rule).all_there i k v s.stands least most in omega (arith, one, queued, popped)

  -- a pop of the first entry that leaves every seat as it was
  hidden_pop : (x : OpEntry O) (items : List (OpEntry O)) (seats : List (QueueSeat O)) → SeatsRule (x ∷ items) seats → SeatsRule items seats → ⊥
  hidden_pop x items seats r left =
      let its = found_at seats x.pass r.known.0 in
      let rule = r.passes x.pass its.0 its.1 in
      let next = first_is_next x items seats x.pass its.0 rule refl in
      let long = own_length (x ∷ items) seats x.pass its.0 rule in
      let here : length (of_pass x.pass (x ∷ items)) ≡ suc (length (of_pass x.pass items)) = ap (λ (l : List (OpEntry O)). length l) (of_pass_here x.pass x items refl) in
      let hit : one_if (Is x.pass x.number x) ≡ 1 = ap one_if (and_from (eqb x.pass x.pass) (eqb x.number x.number) (eq-eqb x.pass x.pass refl) (eq-eqb x.number x.number refl)) in
      let before = r.all_there x.pass x.number its.0 its.1 (omega (arith, next)) (omega (arith, next, long, here)) in
      let after = left.all_there x.pass x.number its.0 its.1 (omega (arith, next)) (omega (arith, next, long, here)) in
      omega (arith, before, after, hit)

  -- a queue that drops the middle one of three entries
  lost : (x y : OpEntry O) (views : List (QueuePass O)) → QueueRule (x ∷ y ∷ []) views → y.pass ≡ x.pass → y.number ≡ x.number + 2 → ⊥
  lost x y views r same far =
      let found = (rule_has_its_parts O (x ∷ y ∷ []) views r).gapless x.pass in
      let both : Counts x.pass found.0 (x ∷ y ∷ []) = subst (Counts x.pass found.0)
      (of_pass_here x.pass x (y ∷ []) refl ∙ ap (λ (l : List (OpEntry O)). x ∷ l) (of_pass_here x.pass y [] same)) found.1 in
      let first = both.1 in
      let second = both.2.1 in
      omega (arith, first, second, far)

  -- a queue that gives a pass 1,000 others first, or finds itself empty while it holds the entry
  still_queued : (items : List (OpEntry O)) (views : List (QueuePass O)) (i k at : ℕ) (v : QueuePass O) (p : PushedOp O) → StandsAt items views i v → get_elem? v.seat.own k ≡ some p
      → get_elem? items at ≡ some p.entry → p.pulled + queue_limit ≤ length v.seat.pulled → ⊥
  still_queued items views i k at v p s p_at e_at many = let soon = ((rule_has_its_parts O items views s.rule).index i v at k p s.stands p_at e_at).0 in omega (arith, soon, many)

  queued_through_an_empty_queue : (items : List (OpEntry O)) (views : List (QueuePass O)) (i k at : ℕ) (v : QueuePass O) (p : PushedOp O) → StandsAt items views i v → get_elem? v.seat.own k ≡ some p
      → get_elem? items at ≡ some p.entry → p.entry.empties ≢ v.empties → ⊥
  queued_through_an_empty_queue items views i k at v p s p_at e_at rose = rose ((rule_has_its_parts O items views s.rule).index i v at k p s.stands p_at e_at).1

  -- a pass with the number of another
  same_number : (items : List (OpEntry O)) (views : List (QueuePass O)) (v w : QueuePass O) → QueueRule items views → get_elem? views 0 ≡ some v → get_elem? views 1 ≡ some w
      → v.seat.number ≡ w.seat.number → ⊥
  same_number items views v w r v_at w_at same = let one : 0 ≡ 1 = (rule_has_its_parts O items views r).different 0 1 v w v_at w_at same in omega (arith, one)

-- a call that applies its operation without a drain, past a queued one of its pass
applied_too_early : {O : Type 0} (applied : List O) (queued own : O) → queued ≢ own → (applied ++ queued ∷ []) ++ own ∷ [] ≡ (applied ++ own ∷ []) ++ queued ∷ [] → ⊥
applied_too_early applied queued own apart e = apart (sym (same_from_push (applied ++ queued ∷ []) (applied ++ own ∷ []) own queued e).1)
