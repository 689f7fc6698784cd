-- A pass that drained the queue has nothing in it, and operations are applied in the order of the calls.
use Rattle.std.proofs.Common.{◌≡◌, ◌≢◌, ◌⊎◌, ℕ, ◌+◌, ◌-◌, ◌<◌, ◌≤◌, eqb, List, [], ◌∷◌, ◌++◌, length, map, filter, sym, refl, ap, ◌∙◌, subst, inl, inr, ⊎_elim, append_assoc, append-nil, arith}
use Rattle.std.specs.List.{AllByRecursion as Every}
use Rattle.std.proofs.lemmas.Bool.{cases_eq, cond-true, cond-false, eq-eqb, ne_eqb}
use Rattle.std.proofs.lemmas.List.{map_push, length_push}
use Rattle.std.proofs.lemmas.List.Elements.{recursion_from_All}
use mathlib.Core.Option.{some}
use lib.ListN.{get_elem?}
use Rattle.aio_rules.specs.declared.operations.OpEntry.{OpEntry}
use Rattle.aio_rules.specs.declared.operations.PushedOp.{PushedOp}
use Rattle.aio_rules.specs.Operations.{QueuePass, ops_of, of_pass, seats_of, queue_limit}
use Rattle.aio_rules.specs.OperationLaws.{StandsAt, HasDrained, KnowsItsPast, Applied, applied_of, with_call, DrainedHasNoneQueued, DrainedStays, PushStaysInOrder, PopStaysInOrder, OwnApplicationStaysInOrder}
use Rattle.aio_rules.proofs.OperationLists.{each_with, each_with_both, each_at, first_of_pass, of_pass_here, of_pass_other, of_pass_push_here, of_pass_push_other, Within}
use Rattle.aio_rules.proofs.OperationSteps.{own_within}
use Rattle.aio_rules.proofs.OperationRules.{seat_at}

map_each : {X Y : Type 0} (f : X → Y) (P : Y → Type 0) (xs : List X) → Every (λ (x : X). P (f x)) xs → Every P (map f xs)
map_each f P [] all = tt
map_each f P (x ∷ xs) all = (all.0, map_each f P xs all.1)

each_middle : {X : Type 0} (P : X → Type 0) (xs : List X) (y : X) (ys : List X) → Every P (xs ++ y ∷ ys) → P y
each_middle P [] y ys all = all.0
each_middle P (x ∷ xs) y ys all = each_middle P xs y ys all.1

module _ {O : Type 0} where
  -- ## What was applied of one pass, read from the front

  pub applied_here : (pass : ℕ) (a : Applied O) (log : List (Applied O)) → a.pass ≡ pass → applied_of pass (a ∷ log) ≡ a.op ∷ applied_of pass log
  applied_here pass a log is = ap (λ (l : List (Applied O)). map (λ (b : Applied O). b.op) l)
      (cond-true (eqb a.pass pass) (a ∷ filter (λ (b : Applied O). eqb b.pass pass) log) (filter (λ (b : Applied O). eqb b.pass pass) log) (eq-eqb a.pass pass is))

  pub applied_other : (pass : ℕ) (a : Applied O) (log : List (Applied O)) → a.pass ≢ pass → applied_of pass (a ∷ log) ≡ applied_of pass log
  applied_other pass a log other = ap (λ (l : List (Applied O)). map (λ (b : Applied O). b.op) l)
      (cond-false (eqb a.pass pass) (a ∷ filter (λ (b : Applied O). eqb b.pass pass) log) (filter (λ (b : Applied O). eqb b.pass pass) log) (ne_eqb a.pass pass other))

  none_left : (items : List (OpEntry O)) (views : List (QueuePass O)) (pass : ℕ) (v : QueuePass O) → StandsAt items views pass v → HasDrained v
      → (rest : List (OpEntry O)) → of_pass pass items ≡ rest → rest ≡ []
  none_left items views pass v s drained [] is = refl
  none_left items views pass v s drained (y ∷ ys) is =
      let mine = s.rule.seats.passes pass v.seat (seat_at views pass v s.stands) in
      let found = first_of_pass pass items y ys is in
      let Gone : OpEntry O → Type 0 = λ e. get_elem? items found.0 ≡ some e → ⊥ in
      let own_gone : Every (λ (p : PushedOp O). Gone p.entry) v.seat.own = each_with_both
      (λ (p : PushedOp O). Within pass 1 (1 + length v.seat.own) p.entry × ((index : ℕ) → get_elem? items index ≡ some p.entry → index + (length v.seat.pulled - p.pulled) < queue_limit))
      (λ (p : PushedOp O). (p.pulled + queue_limit ≤ length v.seat.pulled) ⊎ (p.entry.empties < v.empties))
      (λ (p : PushedOp O). Gone p.entry) v.seat.own
      (λ p known left here. ⊎_elim
      (λ (many : p.pulled + queue_limit ≤ length v.seat.pulled). let soon = known.1 found.0 here in omega (arith, soon, many))
      (λ (rose : p.entry.empties < v.empties).
      let same : p.entry.empties ≡ v.empties = each_at (λ (e : OpEntry O). (u : QueuePass O) → get_elem? views e.pass ≡ some u → e.empties ≡ u.empties) items found.0 p.entry s.rule.empties here v
      (subst (λ (i : ℕ). get_elem? views i ≡ some v) (sym known.0.0) s.stands) in
      omega (arith, rose, same))
      left)
      (each_with_both (λ (p : PushedOp O). Within pass 1 (1 + length v.seat.own) p.entry)
      (λ (p : PushedOp O). (index : ℕ) → get_elem? items index ≡ some p.entry → index + (length v.seat.pulled - p.pulled) < queue_limit)
      (λ (p : PushedOp O). Within pass 1 (1 + length v.seat.own) p.entry × ((index : ℕ) → get_elem? items index ≡ some p.entry → index + (length v.seat.pulled - p.pulled) < queue_limit))
      v.seat.own (λ p within soon. (within, soon)) (own_within items (seats_of views) pass v.seat mine) mine.soon)
      drained in
      let all : Every Gone (mine.gone ++ y ∷ ys) = subst (Every Gone) (mine.suffix ∙ ap (λ (l : List (OpEntry O)). mine.gone ++ l) is)
      (map_each (λ (p : PushedOp O). p.entry) Gone v.seat.own own_gone) in
      absurd (each_middle Gone mine.gone y ys all found.1)

module _ (O : Type 0) where
  pub drained_has_none_queued : DrainedHasNoneQueued O
  drained_has_none_queued v drained items views pass s = none_left items views pass v s drained (of_pass pass items) refl

  pub drained_stays : DrainedStays O
  drained_stays v e drained =
      let Left : ℕ → ℕ → PushedOp O → Type 0 = λ pulled empties p. (p.pulled + queue_limit ≤ pulled) ⊎ (p.entry.empties < empties) in
      let long : length (v.seat.pulled ++ e ∷ []) ≡ length v.seat.pulled + 1 = length_push v.seat.pulled e in (
        drained,
        each_with (Left (length v.seat.pulled) v.empties) (Left (length (v.seat.pulled ++ e ∷ [])) v.empties) v.seat.own
            (λ p left. ⊎_elim (λ many. inl (omega (arith, many, long))) (λ rose. inr rose) left) drained,
        each_with (Left (length v.seat.pulled) v.empties) (Left (length v.seat.pulled) (v.empties + 1)) v.seat.own
            (λ p left. ⊎_elim (λ many. inl many) (λ rose. inr (omega (arith, rose))) left) drained,
        drained,
      )

  -- ## Three kinds of step, each of which stays in order

  applied_push_here : (pass : ℕ) (log : List (Applied O)) (a : Applied O) → a.pass ≡ pass → applied_of pass (log ++ a ∷ []) ≡ applied_of pass log ++ a.op ∷ []
  applied_push_here pass [] a is = applied_here pass a [] is
  applied_push_here pass (b ∷ log) a is = ⊎_elim
      (λ (here : b.pass ≡ pass). applied_here pass b (log ++ a ∷ []) here ∙ ap (λ (l : List O). b.op ∷ l) (applied_push_here pass log a is)
      ∙ ap (λ (l : List O). l ++ a.op ∷ []) (sym (applied_here pass b log here)))
      (λ (other : b.pass ≢ pass). applied_other pass b (log ++ a ∷ []) other ∙ applied_push_here pass log a is
      ∙ ap (λ (l : List O). l ++ a.op ∷ []) (sym (applied_other pass b log other)))
      (cases_eq b.pass pass)

  applied_push_other : (pass : ℕ) (log : List (Applied O)) (a : Applied O) → a.pass ≢ pass → applied_of pass (log ++ a ∷ []) ≡ applied_of pass log
  applied_push_other pass [] a other = applied_other pass a [] other
  applied_push_other pass (b ∷ log) a other = ⊎_elim
      (λ (here : b.pass ≡ pass). applied_here pass b (log ++ a ∷ []) here ∙ ap (λ (l : List O). b.op ∷ l) (applied_push_other pass log a other)
      ∙ sym (applied_here pass b log here))
      (λ (apart : b.pass ≢ pass). applied_other pass b (log ++ a ∷ []) apart ∙ applied_push_other pass log a other ∙ sym (applied_other pass b log apart))
      (cases_eq b.pass pass)

  called_here : (pass caller : ℕ) (op : O) (calls : List O) → caller ≡ pass → with_call pass caller op calls ≡ calls ++ op ∷ []
  called_here pass caller op calls is = cond-true (eqb caller pass) (calls ++ op ∷ []) calls (eq-eqb caller pass is)

  called_other : (pass caller : ℕ) (op : O) (calls : List O) → caller ≢ pass → with_call pass caller op calls ≡ calls
  called_other pass caller op calls other = cond-false (eqb caller pass) (calls ++ op ∷ []) calls (ne_eqb caller pass other)

  pub push_stays_in_order : PushStaysInOrder O
  push_stays_in_order pass calls log items e so = ⊎_elim
      (λ (is : e.pass ≡ pass). called_here pass e.pass e.op calls is ∙ ap (λ (l : List O). l ++ e.op ∷ []) so
      ∙ append_assoc (applied_of pass log) (ops_of (of_pass pass items)) (e.op ∷ [])
      ∙ ap (λ (l : List O). applied_of pass log ++ l) (sym (ap ops_of (of_pass_push_here pass items e is) ∙ map_push (λ (f : OpEntry O). f.op) (of_pass pass items) e)))
      (λ (other : e.pass ≢ pass). called_other pass e.pass e.op calls other ∙ so
      ∙ ap (λ (l : List (OpEntry O)). applied_of pass log ++ ops_of l) (sym (of_pass_push_other pass items e other)))
      (cases_eq e.pass pass)

  pub pop_stays_in_order : PopStaysInOrder O
  pop_stays_in_order pass calls log items e so =
      let a : Applied O = record { pass = e.pass; op = e.op } in
      ⊎_elim
      (λ (is : e.pass ≡ pass). so ∙ ap (λ (l : List (OpEntry O)). applied_of pass log ++ ops_of l) (of_pass_here pass e items is)
      ∙ sym (append_assoc (applied_of pass log) (e.op ∷ []) (ops_of (of_pass pass items)))
      ∙ ap (λ (l : List O). l ++ ops_of (of_pass pass items)) (sym (applied_push_here pass log a is)))
      (λ (other : e.pass ≢ pass). so ∙ ap (λ (l : List (OpEntry O)). applied_of pass log ++ ops_of l) (of_pass_other pass e items other)
      ∙ ap (λ (l : List O). l ++ ops_of (of_pass pass items)) (sym (applied_push_other pass log a other)))
      (cases_eq e.pass pass)

  pub own_application_stays_in_order : OwnApplicationStaysInOrder O
  own_application_stays_in_order pass caller v calls log items views op s drained so =
      let a : Applied O = record { pass = caller; op = op } in
      ⊎_elim
      (λ (is : caller ≡ pass).
      let none : of_pass pass items ≡ [] = subst (λ (n : ℕ). of_pass n items ≡ []) is (drained_has_none_queued v drained items views caller s) in
      called_here pass caller op calls is
      ∙ ap (λ (l : List O). l ++ op ∷ []) (so ∙ ap (λ (l : List (OpEntry O)). applied_of pass log ++ ops_of l) none ∙ append-nil (applied_of pass log))
      ∙ sym (applied_push_here pass log a is) ∙ sym (append-nil (applied_of pass (log ++ a ∷ [])))
      ∙ ap (λ (l : List (OpEntry O)). applied_of pass (log ++ a ∷ []) ++ ops_of l) (sym none))
      (λ (other : caller ≢ pass). called_other pass caller op calls other ∙ so ∙ ap (λ (l : List O). l ++ ops_of (of_pass pass items)) (sym (applied_push_other pass log a other)))
      (cases_eq caller pass)

module _ {O : Type 0} where
  -- where a pass pushed nothing, and either popped 1,000 more or found the queue empty
  pub drained_by : (v w : QueuePass O) → w.seat.own ≡ v.seat.own → KnowsItsPast v → (length v.seat.pulled + queue_limit ≤ length w.seat.pulled) ⊎ (v.empties < w.empties) → HasDrained w
  drained_by v w same past more =
      subst (Every (λ (p : PushedOp O). (p.pulled + queue_limit ≤ length w.seat.pulled) ⊎ (p.entry.empties < w.empties))) (sym same)
      (each_with (λ (p : PushedOp O). (p.pulled ≤ length v.seat.pulled) × (p.entry.empties ≤ v.empties))
      (λ (p : PushedOp O). (p.pulled + queue_limit ≤ length w.seat.pulled) ⊎ (p.entry.empties < w.empties)) v.seat.own
      (λ p before. let low = before.0 in let few = before.1 in ⊎_elim (λ many. inl (omega (arith, low, many))) (λ rose. inr (omega (arith, few, rose))) more)
      (recursion_from_All (λ (p : PushedOp O). (p.pulled ≤ length v.seat.pulled) × (p.entry.empties ≤ v.empties)) v.seat.own past))
