-- Each step is counted for what it does to its word, and so the rule of the shared words is kept.
use Rattle.std.proofs.Common.{◌≡◌, ◌≢◌, ℕ, zero, suc, ◌+◌, ◌^◌, ◌<◌, Bool, true, false, ◌&&◌, eqb, if◌then◌else◌, List, [], ◌∷◌, ◌++◌, length, length-set, length-append, replicate, set, get_or, get_or-set_same, get_or-set_other, bit_or, sym, refl, ap, ◌∙◌, ⊎_elim, ne_eqb, eq-eqb, arith}
use Rattle.std.specs.Int.{bit_at}
use Rattle.std.proofs.lemmas.List.{set-get_or}
use Rattle.std.proofs.lemmas.Nat.Bits.{bit_at_or, bit_at-lt, bit_at-zero, bit_at-pow_same, bit_at-pow_other}
use mathlib.Core.Option.{some, some-injective, some-ne-none}
use mathlib.Core.Logic.{dite}
use native.Mathlib.Decide.{ℕ_discrete}
use lib.ListN.{get_elem?}
use Rattle.aio_rules.specs.declared.seats.WordStep.{WordStep}
use Rattle.aio_rules.specs.declared.seats.WordStep.TheVariants as word_step
use Rattle.aio_rules.specs.declared.seats.SeatView.{SeatView}
use Rattle.aio_rules.specs.SharedLock.{one_if}
use Rattle.aio_rules.specs.SharedWords.{ticker, ticker_place, notified, notified_place, blocked, blocked_place, mask, mask_place, word_count, split_view, after_split, spent_view, joined_seat, place_of, value_after, after, made, all_splits, is_clearing, is_block_of, is_unblock_of, is_wake_of, is_take_of, Accounts, WordsAgree}
use Rattle.aio_rules.specs.WordCalls.{count_of, is_raise, is_won}
use Rattle.aio_rules.specs.WordLaws.{CanStep, StartMeetsWordRule, StepKeepsRule, SplitKeepsRule, JoinKeepsWordRule, ViewsTellWords, NoSeatAppears}
use Rattle.aio_rules.proofs.SeatLists.{beside_set}
use Rattle.aio_rules.proofs.WordCounts.{count-append}
use Rattle.aio_rules.proofs.WordMoves.{zeros, start_agrees, split_agrees, join_agrees}
use Rattle.aio_rules.proofs.WordSteps.{if_is, if_is_not, step_agrees}

-- ## How the counts of all seats change

module _ (kind : WordStep → Bool) where
  abbrev own : SeatView → ℕ
  own v = count_of kind v.did + count_of kind v.joined

  made_set : (views : List SeatView) (seat : ℕ) (v w : SeatView) → get_elem? views seat ≡ some v → made kind (set views seat w) + own v ≡ made kind views + own w
  made_set [] seat v w e = absurd (some-ne-none v (sym e))
  made_set (x ∷ views) zero v w e = let same : own x ≡ own v = ap own (some-injective x v e) in omega arith
  made_set (x ∷ views) (suc seat) v w e = let rest = made_set views seat v w e in omega arith

  made_end : (views : List SeatView) (w : SeatView) → made kind (views ++ w ∷ []) ≡ made kind views + own w
  made_end [] w = omega arith
  made_end (x ∷ views) w = let rest = made_end views w in omega arith

  one_step : (s : WordStep) (so : Bool) → length (if so then s ∷ [] else []) ≡ one_if so
  one_step s true = refl
  one_step s false = refl

  one_more : (steps : List WordStep) (s : WordStep) → count_of kind (steps ++ s ∷ []) ≡ count_of kind steps + one_if (kind s)
  one_more steps s = let sum = count-append kind steps (s ∷ []) in let last = one_step s (kind s) in omega arith

splits_set : (views : List SeatView) (seat : ℕ) (v w : SeatView) → get_elem? views seat ≡ some v
    → all_splits (set views seat w) + (v.splits + v.joined_splits) ≡ all_splits views + (w.splits + w.joined_splits)
splits_set [] seat v w e = absurd (some-ne-none v (sym e))
splits_set (x ∷ views) zero v w e =
    let same : x.splits + x.joined_splits ≡ v.splits + v.joined_splits = ap (λ (u : SeatView). u.splits + u.joined_splits) (some-injective x v e) in omega arith
splits_set (x ∷ views) (suc seat) v w e = let rest = splits_set views seat v w e in omega arith

splits_end : (views : List SeatView) (w : SeatView) → all_splits (views ++ w ∷ []) ≡ all_splits views + (w.splits + w.joined_splits)
splits_end [] w = omega arith
splits_end (x ∷ views) w = let rest = splits_end views w in omega arith

-- a step leaves what its seat has of others, and its splits
step_leaves : (s : WordStep) (v : SeatView) → ((after s v).joined ≡ v.joined) × ((after s v).splits ≡ v.splits) × ((after s v).joined_splits ≡ v.joined_splits)
step_leaves (word_step.LoadTicker found) v = (refl, refl, refl)
step_leaves (word_step.AddTicker found) v = (refl, refl, refl)
step_leaves (word_step.SetBit i bit found) v = (refl, refl, refl)
step_leaves (word_step.LoadBlocked i found) v = (refl, refl, refl)
step_leaves (word_step.ExchangeNotified found) v = (refl, refl, refl)
step_leaves (word_step.StoreBlocked i value found) v = (refl, refl, refl)
step_leaves (word_step.SwapMask i found) v = (refl, refl, refl)
step_leaves (word_step.LoadMask i found) v = (refl, refl, refl)
step_leaves (word_step.SwapNotified found) v = (refl, refl, refl)

made_step : (kind : WordStep → Bool) (views : List SeatView) (seat : ℕ) (v : SeatView) (s : WordStep) → get_elem? views seat ≡ some v
    → made kind (set views seat (after s v)) ≡ made kind views + one_if (kind s)
made_step kind views seat v s stands =
    let moved = made_set kind views seat v (after s v) stands in
    let more = one_more kind v.did s in
    let same : count_of kind (after s v).joined ≡ count_of kind v.joined = ap (count_of kind) (step_leaves s v).0 in
    omega arith

-- ## What each kind of step does to its word

record Moves (words now : List ℕ) (s : WordStep) : Type 0 where
  rises : ticker now ≡ ticker words + one_if (is_raise s)
  notes : notified now + one_if (is_clearing s) ≡ notified words + one_if (is_won s)
  flags : (i : ℕ) → blocked now i + one_if (is_unblock_of i s) ≡ blocked words i + one_if (is_block_of i s)
  slots : (i slot : ℕ) → bit_at (mask now i) slot + one_if (is_take_of i slot s) ≡ bit_at (mask words i) slot + one_if (is_wake_of i slot s)

first_holds : (a b : Bool) → a ≡ true → one_if (a && b) ≡ one_if b
first_holds a b e = ap (λ (x : Bool). one_if (x && b)) e

first_fails : (a b : Bool) → a ≡ false → one_if (a && b) ≡ 0
first_fails a b e = ap (λ (x : Bool). one_if (x && b)) e

-- whether a number below 2 is 1, and whether it is 0
one_is : (x : ℕ) → x < 2 → one_if (eqb x 1) ≡ x
one_is x few = dite (ℕ_discrete x 1) (λ e. ap one_if (eq-eqb x 1 e) ∙ sym e) (λ apart. ap one_if (ne_eqb x 1 apart) ∙ omega arith)

zero_is : (x : ℕ) → x < 2 → one_if (eqb x 0) + x ≡ 1
zero_is x few = dite (ℕ_discrete x 0) (λ e. let one : one_if (eqb x 0) ≡ 1 = ap one_if (eq-eqb x 0 e) in omega arith) (λ apart. let none : one_if (eqb x 0) ≡ 0 = ap one_if (ne_eqb x 0 apart) in omega arith)

-- a load, which counts for nothing
module _ (words now : List ℕ) (same : now ≡ words) where
  by_place : (at : ℕ) → get_or now at 0 ≡ get_or words at 0
  by_place at = ap (λ (l : List ℕ). get_or l at 0) same

  looks_at_ticker : (found : ℕ) → Moves words now (word_step.LoadTicker found)
  looks_at_ticker found = record {
    rises = let e = by_place ticker_place in omega arith;
    notes = let e = by_place notified_place in omega arith;
    flags = λ i. let e = by_place (blocked_place i) in omega arith;
    slots = λ i slot. ap (λ (m : ℕ). bit_at m slot + 0) (by_place (mask_place i));
  }

  looks_at_flag : (j found : ℕ) → Moves words now (word_step.LoadBlocked j found)
  looks_at_flag j found = let l = looks_at_ticker found in record { rises = l.rises; notes = l.notes; flags = l.flags; slots = l.slots }

  looks_at_mask : (j found : ℕ) → Moves words now (word_step.LoadMask j found)
  looks_at_mask j found = let l = looks_at_ticker found in record { rises = l.rises; notes = l.notes; flags = l.flags; slots = l.slots }

module _ (n : ℕ) (words : List ℕ) (views : List SeatView) (rule : WordsAgree n words views) where
  module _ (k left : ℕ) where
    beside : (at : ℕ) → at ≢ k → get_or (set words k left) at 0 ≡ get_or words at 0
    beside at apart = get_or-set_other words k at left 0 apart

    here : k < word_count n → get_or (set words k left) k 0 ≡ left
    here below = get_or-set_same words k left 0 (let s = rule.sized in omega arith)

  adds : (found : ℕ) → ticker words ≡ found → Moves words (set words ticker_place (found + 1)) (word_step.AddTicker found)
  adds found e = let k : ℕ = ticker_place in let left : ℕ = found + 1 in record {
    rises = let h = here k left (omega arith) in omega arith;
    notes = let b = beside k left notified_place (λ z. omega arith) in omega arith;
    flags = λ i. let b = beside k left (blocked_place i) (λ z. omega arith) in omega arith;
    slots = λ i slot. ap (λ (m : ℕ). bit_at m slot + 0) (beside k left (mask_place i) (λ z. omega arith));
  }

  exchanges : (found : ℕ) → notified words ≡ found → Moves words (set words notified_place (if eqb found 0 then 1 else found)) (word_step.ExchangeNotified found)
  exchanges found e = let k : ℕ = notified_place in let left : ℕ = if eqb found 0 then 1 else found in record {
    rises = let b = beside k left ticker_place (λ z. omega arith) in omega arith;
    notes = let h = here k left (omega arith) in let some_of = zero_is found (let b = rule.notified_bit in omega arith) in dite (ℕ_discrete found 0)
        (λ z. let l : left ≡ 1 = if_is found 0 1 found z in omega arith)
        (λ nz. let l : left ≡ found = if_is_not found 0 1 found nz in let none : one_if (eqb found 0) ≡ 0 = ap one_if (ne_eqb found 0 nz) in omega arith);
    flags = λ i. let b = beside k left (blocked_place i) (λ z. omega arith) in omega arith;
    slots = λ i slot. ap (λ (m : ℕ). bit_at m slot + 0) (beside k left (mask_place i) (λ z. omega arith));
  }

  clears : (found : ℕ) → notified words ≡ found → Moves words (set words notified_place 0) (word_step.SwapNotified found)
  clears found e = let k : ℕ = notified_place in record {
    rises = let b = beside k 0 ticker_place (λ z. omega arith) in omega arith;
    notes = let h = here k 0 (omega arith) in let one = one_is found (let b = rule.notified_bit in omega arith) in omega arith;
    flags = λ i. let b = beside k 0 (blocked_place i) (λ z. omega arith) in omega arith;
    slots = λ i slot. ap (λ (m : ℕ). bit_at m slot + 0) (beside k 0 (mask_place i) (λ z. omega arith));
  }

  stores : (j value found : ℕ) → j < n → value < 2 → blocked words j ≡ found → Moves words (set words (blocked_place j) value) (word_step.StoreBlocked j value found)
  stores j value found below bit e = let k : ℕ = blocked_place j in record {
    rises = let b = beside k value ticker_place (λ z. omega arith) in omega arith;
    notes = let b = beside k value notified_place (λ z. omega arith) in omega arith;
    flags = λ i. let few = rule.blocked_bit j in dite (ℕ_discrete i j)
        (λ same.
        let h = here k value (omega arith) in
        let now_is : blocked (set words k value) i ≡ value = ap (blocked (set words k value)) same ∙ h in
        let was : blocked words i ≡ found = ap (blocked words) same ∙ e in
        let on : one_if (is_block_of i (word_step.StoreBlocked j value found)) ≡ one_if (eqb value 1 && eqb found 0) = first_holds (eqb i j) (eqb value 1 && eqb found 0) (eq-eqb i j same) in
        let off : one_if (is_unblock_of i (word_step.StoreBlocked j value found)) ≡ one_if (eqb value 0 && eqb found 1) = first_holds (eqb i j) (eqb value 0 && eqb found 1) (eq-eqb i j same) in
        dite (ℕ_discrete value 0)
        (λ z. let a = first_fails (eqb value 1) (eqb found 0) (ne_eqb value 1 (λ one. omega arith)) in let b = first_holds (eqb value 0) (eqb found 1) (eq-eqb value 0 z) in let c = one_is found (omega arith) in omega arith)
        (λ nz. let a = first_holds (eqb value 1) (eqb found 0) (eq-eqb value 1 (omega arith)) in let b = first_fails (eqb value 0) (eqb found 1) (ne_eqb value 0 nz) in let c = zero_is found (omega arith) in omega arith))
        (λ apart.
        let b = beside k value (blocked_place i) (λ z. apart (omega arith)) in
        let on = first_fails (eqb i j) (eqb value 1 && eqb found 0) (ne_eqb i j apart) in
        let off = first_fails (eqb i j) (eqb value 0 && eqb found 1) (ne_eqb i j apart) in
        omega arith);
    slots = λ i slot. ap (λ (m : ℕ). bit_at m slot + 0) (beside k value (mask_place i) (λ z. omega arith));
  }

  sets : (j bit found : ℕ) → j < n → mask words j ≡ found → Moves words (set words (mask_place j) (bit_or found (2 ^ bit))) (word_step.SetBit j bit found)
  sets j bit found below e = let k : ℕ = mask_place j in let left : ℕ = bit_or found (2 ^ bit) in record {
    rises = let b = beside k left ticker_place (λ z. omega arith) in omega arith;
    notes = let b = beside k left notified_place (λ z. omega arith) in omega arith;
    flags = λ i. let b = beside k left (blocked_place i) (λ z. omega arith) in omega arith;
    slots = λ i slot. dite (ℕ_discrete i j)
        (λ same.
        let now_is : bit_at (mask (set words k left) i) slot ≡ bit_at left slot = ap (λ (m : ℕ). bit_at m slot) (ap (mask (set words k left)) same ∙ here k left (omega arith)) in
        let was : bit_at (mask words i) slot ≡ bit_at found slot = ap (λ (m : ℕ). bit_at m slot) (ap (mask words) same ∙ e) in
        let either = bit_at_or found (2 ^ bit) slot in
        let few = bit_at-lt found slot in
        let on = first_holds (eqb i j) (eqb slot bit && eqb (bit_at found slot) 0) (eq-eqb i j same) in
        dite (ℕ_discrete slot bit)
        (λ mine.
        let one : bit_at (2 ^ bit) slot ≡ 1 = ap (bit_at (2 ^ bit)) mine ∙ bit_at-pow_same bit in
        let a = first_holds (eqb slot bit) (eqb (bit_at found slot) 0) (eq-eqb slot bit mine) in
        let b = zero_is (bit_at found slot) few in
        omega arith)
        (λ other.
        let none = bit_at-pow_other bit slot other in
        let a = first_fails (eqb slot bit) (eqb (bit_at found slot) 0) (ne_eqb slot bit other) in
        omega arith))
        (λ apart.
        let b : bit_at (mask (set words k left) i) slot ≡ bit_at (mask words i) slot = ap (λ (m : ℕ). bit_at m slot) (beside k left (mask_place i) (λ z. apart (omega arith))) in
        let on = first_fails (eqb i j) (eqb slot bit && eqb (bit_at found slot) 0) (ne_eqb i j apart) in
        omega arith);
  }

  takes : (j found : ℕ) → j < n → mask words j ≡ found → Moves words (set words (mask_place j) 0) (word_step.SwapMask j found)
  takes j found below e = let k : ℕ = mask_place j in record {
    rises = let b = beside k 0 ticker_place (λ z. omega arith) in omega arith;
    notes = let b = beside k 0 notified_place (λ z. omega arith) in omega arith;
    flags = λ i. let b = beside k 0 (blocked_place i) (λ z. omega arith) in omega arith;
    slots = λ i slot. dite (ℕ_discrete i j)
        (λ same.
        let now_is : bit_at (mask (set words k 0) i) slot ≡ 0 = ap (λ (m : ℕ). bit_at m slot) (ap (mask (set words k 0)) same ∙ here k 0 (omega arith)) ∙ bit_at-zero slot in
        let was : bit_at (mask words i) slot ≡ bit_at found slot = ap (λ (m : ℕ). bit_at m slot) (ap (mask words) same ∙ e) in
        let off = first_holds (eqb i j) (eqb (bit_at found slot) 1) (eq-eqb i j same) in
        let a = one_is (bit_at found slot) (bit_at-lt found slot) in
        omega arith)
        (λ apart.
        let b : bit_at (mask (set words k 0) i) slot ≡ bit_at (mask words i) slot = ap (λ (m : ℕ). bit_at m slot) (beside k 0 (mask_place i) (λ z. apart (omega arith))) in
        let off = first_fails (eqb i j) (eqb (bit_at found slot) 1) (ne_eqb i j apart) in
        omega arith);
  }

left_as_found : (words : List ℕ) (k found : ℕ) → get_or words k 0 ≡ found → set words k found ≡ words
left_as_found words k found e = ap (set words k) (sym e) ∙ set-get_or words k 0

moves : (n : ℕ) (words : List ℕ) (views : List SeatView) (seat : ℕ) (v : SeatView) (s : WordStep) → CanStep n words views seat v s
    → Moves words (set words (place_of s) (value_after s)) s
moves n words views seat v (word_step.LoadTicker found) can = looks_at_ticker words (set words ticker_place found) (left_as_found words ticker_place found can.found) found
moves n words views seat v (word_step.AddTicker found) can = adds n words views can.rule.agrees found can.found
moves n words views seat v (word_step.SetBit i bit found) can = sets n words views can.rule.agrees i bit found can.may.0 can.found
moves n words views seat v (word_step.LoadBlocked i found) can = looks_at_flag words (set words (blocked_place i) found) (left_as_found words (blocked_place i) found can.found) i found
moves n words views seat v (word_step.ExchangeNotified found) can = exchanges n words views can.rule.agrees found can.found
moves n words views seat v (word_step.StoreBlocked i value found) can =
    stores n words views can.rule.agrees i value found can.may.0 (⊎_elim (λ a. let one = a.0 in omega arith) (λ a. let none = a.0 in omega arith) can.may.2) can.found
moves n words views seat v (word_step.SwapMask i found) can = takes n words views can.rule.agrees i found can.may.0 can.found
moves n words views seat v (word_step.LoadMask i found) can = looks_at_mask words (set words (mask_place i) found) (left_as_found words (mask_place i) found can.found) i found
moves n words views seat v (word_step.SwapNotified found) can = clears n words views can.rule.agrees found can.found

-- ## The rule is kept

pub step_keeps_rule : StepKeepsRule
step_keeps_rule n words views seat v s can =
    let moved = moves n words views seat v s can in
    let was = can.rule.accounts in
    let counts : (kind : WordStep → Bool) → made kind (set views seat (after s v)) ≡ made kind views + one_if (kind s) = λ kind. made_step kind views seat v s can.stands in
    record {
      agrees = step_agrees n words views seat v s can;
      accounts = record {
        rises = let a = moved.rises in let b = was.rises in let c = counts is_raise in omega arith;
        notes = let a = moved.notes in let b = was.notes in let c = counts is_clearing in let d = counts is_won in omega arith;
        flags = λ i. let a = moved.flags i in let b = was.flags i in let c = counts (is_unblock_of i) in let d = counts (is_block_of i) in omega arith;
        slots = λ i slot. let a = moved.slots i slot in let b = was.slots i slot in let c = counts (is_take_of i slot) in let d = counts (is_wake_of i slot) in omega arith;
      };
      counted =
          let leaves = step_leaves s v in
          let a = splits_set views seat v (after s v) can.stands in
          let b = leaves.1 in
          let c = leaves.2 in
          let d = length-set views seat (after s v) in
          let was = can.rule.counted in
          omega arith;
    }

-- where each kind of step was made as often as before
as_often : (words : List ℕ) (views changed : List SeatView) → ((kind : WordStep → Bool) → made kind changed ≡ made kind views) → Accounts words views → Accounts words changed
as_often words views changed same was = record {
  rises = was.rises ∙ sym (same is_raise);
  notes = let a = was.notes in let b = same is_clearing in let c = same is_won in omega arith;
  flags = λ i. let a = was.flags i in let b = same (is_unblock_of i) in let c = same (is_block_of i) in omega arith;
  slots = λ i slot. let a = was.slots i slot in let b = same (is_take_of i slot) in let c = same (is_wake_of i slot) in omega arith;
}

pub start_meets_rule : StartMeetsWordRule
start_meets_rule n = let words : List ℕ = replicate (word_count n) 0 in let zero_at : (at : ℕ) → get_or words at 0 ≡ 0 = zeros (word_count n) in record {
  agrees = start_agrees n;
  accounts = record {
    rises = zero_at ticker_place;
    notes = let z = zero_at notified_place in omega arith;
    flags = λ i. let z = zero_at (blocked_place i) in omega arith;
    slots = λ i slot. let z : bit_at (mask words i) slot ≡ 0 = ap (λ (m : ℕ). bit_at m slot) (zero_at (mask_place i)) ∙ bit_at-zero slot in omega arith;
  };
  counted = refl;
}

pub split_keeps_rule : SplitKeepsRule
split_keeps_rule n words views seat v rule stands =
    let left : List SeatView = set views seat (after_split v) in
    record {
      agrees = split_agrees n words views seat v rule.agrees stands;
      accounts = as_often words views (left ++ split_view v ∷ [])
          (λ kind. let a = made_set kind views seat v (after_split v) stands in let b = made_end kind left (split_view v) in omega arith) rule.accounts;
      counted =
          let a = splits_set views seat v (after_split v) stands in
          let b = splits_end left (split_view v) in
          let c = length-append left (split_view v ∷ []) in
          let d = length-set views seat (after_split v) in
          let was = rule.counted in
          omega arith;
    }

pub join_keeps_rule : JoinKeepsWordRule
join_keeps_rule n words views seat other v w rule stands pass apart there free =
    let both : SeatView = joined_seat v w in
    let mid : List SeatView = set views seat both in
    let still_there : get_elem? mid other ≡ some w = beside_set views seat other both apart ∙ there in
    record {
      agrees = join_agrees n words views seat other v w rule.agrees stands pass apart there free;
      accounts = as_often words views (set mid other spent_view)
          (λ kind.
          let a = made_set kind views seat v both stands in
          let b = made_set kind mid other w spent_view still_there in
          let c : count_of kind both.joined ≡ count_of kind (v.joined ++ w.joined) + count_of kind w.did = count-append kind (v.joined ++ w.joined) w.did in
          let d = count-append kind v.joined w.joined in
          omega arith) rule.accounts;
      counted =
          let a = splits_set views seat v both stands in
          let b = splits_set mid other w spent_view still_there in
          let c = length-set views seat both in
          let d = length-set mid other spent_view in
          let was = rule.counted in
          omega arith;
    }

-- ## What the views tell

pub views_tell_words : ViewsTellWords
views_tell_words n words now views before after = let a = before.accounts in let b = after.accounts in (
  b.rises ∙ sym a.rises,
  (let c = a.notes in let d = b.notes in omega arith),
  (λ i. let c = a.flags i in let d = b.flags i in omega arith),
  (λ i slot. let c = a.slots i slot in let d = b.slots i slot in omega arith),
)

pub no_seat_appears : NoSeatAppears
no_seat_appears n words now views new before none after =
    let a = before.counted in let b = after.counted in let c = splits_end views new in let d = length-append views (new ∷ []) in absurd (omega (arith, a, b, c, d, none))
