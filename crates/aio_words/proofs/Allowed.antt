-- Each step that a private call makes is one that its seat may make, so the table keeps the rule.
use Rattle.std.proofs.Common.{◌≡◌, ◌⊎◌, ℕ, zero, suc, ◌+◌, ◌-◌, ◌*◌, ◌%◌, ◌^◌, ◌<◌, Bool, true, false, eqb, if◌then◌else◌, List, set, get_or, bit_or, sym, refl, ap, ◌∙◌, subst, inl, inr, ⊎_elim, arith}
use Rattle.std.proofs.Math.Pow.{pow-lt}
use prog.Atomic.{either}
use mathlib.Core.Option.{some, none}
use mathlib.Core.Logic.{dite}
use native.Mathlib.Decide.{ℕ_discrete}
use lib.ListN.{get_elem?}
use Rattle.atomic_table.specs.Table.{step, keeps, Allows, Splits, Joins}
use Rattle.aio_rules.specs.declared.seats.WordStep.{WordStep}
use Rattle.aio_rules.specs.declared.seats.WordStep.TheVariants as word_step
use Rattle.aio_rules.specs.declared.seats.SeatView.{SeatView}
use Rattle.aio_rules.specs.declared.seats.Role.TheVariants as role
use Rattle.aio_rules.specs.SharedWords.{WordRule, IsFree, joined_seat, split_view, after_split, spent_view, after, place_of, found_by, value_after, May, mask_place, blocked_place, held}
use Rattle.aio_rules.proofs.WordFrames.{idle_holds_none}
use Rattle.aio_rules.proofs.WordAccounts.{step_keeps_rule, split_keeps_rule, join_keeps_rule}
use Rattle.aio_rules.proofs.SeatLists.{beside_set}
use Rattle.aio_words.specs.Seats.{WordsValue, SeatValue}
use Rattle.aio_words.specs.Plays.{SeatState, Ruled, Makes, LoadsTicker, AddsTicker, SetsBit, LoadsBlocked, ExchangesNotified, StoresBlocked, SwapsMask, LoadsMask, SwapsNotified}

-- a step that the views of a table and of a seat may make, which is what contracts ask, may be made at what is inside
pub may_inside : {table shown : WordsValue} {seat seen : SeatValue} (s : WordStep) → table ≡ shown → seat ≡ seen → May shown.parkers seen.view s → May table.parkers seat.view s
may_inside s table_is seat_is may = subst (λ (x : WordsValue × SeatValue). May x.0.parkers x.1.view s) (λ k. (sym table_is k, sym seat_is k)) may

-- powers of two differ where their places do
one_place : (a b : ℕ) → 2 ^ a ≡ 2 ^ b → a ≡ b
one_place a b e = dite (ℕ_discrete a b) (λ same. same)
    (λ apart. absurd (⊎_elim (λ lt. let p : 2 ^ a < 2 ^ b = pow-lt lt in no_less (2 ^ a) (2 ^ b) e p) (λ lt. let p : 2 ^ b < 2 ^ a = pow-lt lt in no_less (2 ^ b) (2 ^ a) (sym e) p) (either_less a b apart)))
  where
    no_less : (x y : ℕ) → x ≡ y → x < y → ⊥
    no_less x y same less = omega arith

    either_less : (a b : ℕ) → (a ≡ b → ⊥) → (a < b) ⊎ (b < a)
    either_less zero zero apart = absurd (apart refl)
    either_less zero (suc b) apart = inl (omega arith)
    either_less (suc a) zero apart = inr (omega arith)
    either_less (suc a) (suc b) apart = ⊎_elim (λ lt. inl (omega arith)) (λ lt. inr (omega arith)) (either_less a b (λ same. apart (ap suc same)))

chosen : (b : Bool) (x y : ℕ) → (if b then x else y) ≡ either b x y
chosen true x y = refl
chosen false x y = refl

module _ (n slots id : ℕ) (me : SeatState) where
  -- A kind of step, by the number that it finds, on one word: it is allowed where in each state the rule has it leave what the call leaves, the seat may make it, and it is told.
  by_step : (made : ℕ → WordStep) (at : ℕ) → ((x : ℕ) → place_of (made x) ≡ at) → ((x : ℕ) → found_by (made x) ≡ x) → (leaves : ℕ → ℕ) (Told : ℕ → SeatState → Type 0)
      → ((words : List ℕ) (views : List SeatView) → WordRule n words views → get_elem? views id ≡ some me.0
      → let x : ℕ = get_or words at 0 in (value_after (made x) ≡ leaves x) × May n me.0 (made x) × Told x (after (made x) me.0, me.1))
      → Allows (Ruled n) slots id me at leaves Told
  by_step made at places finds leaves Told shown s rule _ stands _ =
      let x : ℕ = get_or s.words at 0 in
      let fits = shown s.words s.views rule stands in
      let view : SeatView = after (made x) me.0 in
      let there = ap (λ (p : ℕ). get_or s.words p 0) (places x) ∙ sym (finds x) in
      let kept = step_keeps_rule n s.words s.views id me.0 (made x) (record { rule = rule; stands = stands; found = there; may = fits.1 }) in
      (view, keeps, tt, subst (λ (left : ℕ × ℕ). WordRule n (set s.words left.0 left.1) (set s.views id view)) (λ k. (places x k, fits.0 k)) kept, fits.2)

  -- A step on a word of a parker is told of whichever parker's word it is: of this one.
  of_mask : (i j : ℕ) → mask_place i ≡ mask_place j → i ≡ j
  of_mask i j same = let e : 3 + 2 * i ≡ 3 + 2 * j = same in omega arith

  of_flag : (i j : ℕ) → blocked_place i ≡ blocked_place j → i ≡ j
  of_flag i j same = let e : 2 + 2 * i ≡ 2 + 2 * j = same in omega arith

  told_of : (made : ℕ → WordStep) (i j : ℕ) → i ≡ j → Makes (made j) me (after (made i) me.0, me.1)
  told_of made i j same = λ k. (after (made (same k)) me.0, me.1)

  pub loads_ticker : Allows (Ruled n) slots id me 0 (λ x. x) (LoadsTicker (step slots 0 0 0 none) me)
  loads_ticker = by_step word_step.LoadTicker 0 (λ _. refl) (λ _. refl) (λ x. x) (LoadsTicker (step slots 0 0 0 none) me)
      (λ words views rule stands. let mine = rule.agrees.each id me.0 stands in (refl, tt, ((refl, refl, refl), refl, mine.seen, (λ round. sym (mine.exact round)))))

  pub adds_ticker : (found : ℕ) → May n me.0 (word_step.AddTicker found) → Allows (Ruled n) slots id me 0 (λ x. (x + 1) % 2 ^ 64) (AddsTicker (step slots 0 1 0 none) me)
  adds_ticker _ may = by_step word_step.AddTicker 0 (λ _. refl) (λ _. refl) (λ x. (x + 1) % 2 ^ 64) (AddsTicker (step slots 0 1 0 none) me) (λ words views rule stands.
      let x : ℕ = get_or words 0 0 in
      let exact : me.0.seen ≡ x = (rule.agrees.each id me.0 stands).exact may.0 in
      let below : me.0.seen < 18446744073709551615 = may.1 in
      let no_wrap : x + 1 ≡ (x + 1) % 18446744073709551616 = omega arith in
      (no_wrap, may, ((refl, refl, refl), refl, sym exact)))

  pub sets_bit : (i bit operand found : ℕ) → operand ≡ 2 ^ bit → May n me.0 (word_step.SetBit i bit found)
      → Allows (Ruled n) slots id me (mask_place i) (λ x. bit_or x operand) (SetsBit (step slots (mask_place i) operand 0 none) me)
  sets_bit i bit operand _ is may = by_step (word_step.SetBit i bit) (mask_place i) (λ _. refl) (λ _. refl) (λ x. bit_or x operand) (SetsBit (step slots (mask_place i) operand 0 none) me)
      (λ words views rule stands. let x : ℕ = get_or words (mask_place i) 0 in
      (ap (bit_or x) (sym is), may, λ j b on same. λ k. (after (word_step.SetBit (of_mask i j on k) (one_place bit b (sym is ∙ same) k) x) me.0, me.1)))

  pub loads_blocked : (i found : ℕ) → May n me.0 (word_step.LoadBlocked i found) → Allows (Ruled n) slots id me (blocked_place i) (λ x. x) (LoadsBlocked (step slots (blocked_place i) 0 0 none) me)
  loads_blocked i _ may = by_step (word_step.LoadBlocked i) (blocked_place i) (λ _. refl) (λ _. refl) (λ x. x) (LoadsBlocked (step slots (blocked_place i) 0 0 none) me)
      (λ words views rule stands. (refl, may, λ j on. told_of (λ k. word_step.LoadBlocked k (get_or words (blocked_place i) 0)) i j (of_flag i j on)))

  pub exchanges_notified : (found : ℕ) → May n me.0 (word_step.ExchangeNotified found)
      → Allows (Ruled n) slots id me 1 (λ x. either (eqb x 0) 1 x) (ExchangesNotified (step slots 1 0 1 none) me)
  exchanges_notified _ may = by_step word_step.ExchangeNotified 1 (λ _. refl) (λ _. refl) (λ x. either (eqb x 0) 1 x) (ExchangesNotified (step slots 1 0 1 none) me)
      (λ words views rule stands. let x : ℕ = get_or words 1 0 in (chosen (eqb x 0) 1 x, may, ((refl, refl, refl), refl)))

  -- A flag is 0 where the seat that may store 1 is idle, since no seat holds the parker; it is 1 where that seat blocks the parker and may store 0.
  flag_before : (words : List ℕ) (views : List SeatView) → WordRule n words views → get_elem? views id ≡ some me.0 → (i value found : ℕ) → May n me.0 (word_step.StoreBlocked i value found)
      → get_or words (blocked_place i) 0 ≡ 1 - value
  flag_before words views rule stands i value _ may = let flag : ℕ = get_or words (blocked_place i) 0 in let mine = rule.agrees.each id me.0 stands in
      ⊎_elim (λ idle. let stored = idle.0 in dite (ℕ_discrete flag 0) (λ clear. omega arith) (λ set. idle_holds_none me.0.mode i idle.1 (mine.alone may.1 i set)))
      (λ blocks. let stored = blocks.0 in let set : flag ≡ 1 = mine.flag i (ap held blocks.1) in omega arith) may.2

  pub stores_blocked : (i value found : ℕ) → May n me.0 (word_step.StoreBlocked i value found)
      → Allows (Ruled n) slots id me (blocked_place i) (λ _. value) (λ _. StoresBlocked (step slots (blocked_place i) value 0 none) me value)
  stores_blocked i value found may =
      by_step (word_step.StoreBlocked i value) (blocked_place i) (λ _. refl) (λ _. refl) (λ _. value) (λ _. StoresBlocked (step slots (blocked_place i) value 0 none) me value)
      (λ words views rule stands. (refl, may, λ j on. λ k. (after (word_step.StoreBlocked (of_flag i j on k) value (flag_before words views rule stands i value found may k)) me.0, me.1)))

  pub swaps_mask : (i found : ℕ) → May n me.0 (word_step.SwapMask i found) → Allows (Ruled n) slots id me (mask_place i) (λ _. 0) (SwapsMask (step slots (mask_place i) 0 0 none) me)
  swaps_mask i _ may = by_step (word_step.SwapMask i) (mask_place i) (λ _. refl) (λ _. refl) (λ _. 0) (SwapsMask (step slots (mask_place i) 0 0 none) me)
      (λ words views rule stands. (refl, may, λ j on. told_of (λ k. word_step.SwapMask k (get_or words (mask_place i) 0)) i j (of_mask i j on)))

  pub loads_mask : (i found : ℕ) → May n me.0 (word_step.LoadMask i found) → Allows (Ruled n) slots id me (mask_place i) (λ x. x) (LoadsMask (step slots (mask_place i) 0 0 none) me)
  loads_mask i _ may = by_step (word_step.LoadMask i) (mask_place i) (λ _. refl) (λ _. refl) (λ x. x) (LoadsMask (step slots (mask_place i) 0 0 none) me)
      (λ words views rule stands. (refl, may, λ j on. told_of (λ k. word_step.LoadMask k (get_or words (mask_place i) 0)) i j (of_mask i j on)))

  pub swaps_notified : (found : ℕ) → May n me.0 (word_step.SwapNotified found) → Allows (Ruled n) slots id me 1 (λ _. 0) (SwapsNotified (step slots 1 0 0 none) me)
  swaps_notified _ may = by_step word_step.SwapNotified 1 (λ _. refl) (λ _. refl) (λ _. 0) (SwapsNotified (step slots 1 0 0 none) me) (λ words views rule stands. (refl, may, ((refl, refl, refl), refl)))

-- a new pass, and a pass that takes in another, as the table asks
pub splits : (n id : ℕ) (v : SeatView) → Splits (Ruled n) id v (after_split v) (split_view v)
splits n id v s rule stands = split_keeps_rule n s.words s.views id v rule stands

pub joins : (n id : ℕ) (v : SeatView) (other : ℕ) (w : SeatView) → v.role ≡ role.Pass → IsFree w → Joins (Ruled n) id v other w (joined_seat v w) spent_view
joins n id v other w pass free s rule stands apart found = join_keeps_rule n s.words s.views id other v w rule stands pass apart (sym (beside_set s.views id other (joined_seat v w) apart) ∙ found) free

-- one, shifted by the place of a bit
pub shifted : (bit : ℕ) → bit < 64 → 1 * 2 ^ bit % 2 ^ 64 ≡ 2 ^ bit
shifted bit below = let p : 2 ^ bit < 18446744073709551616 = pow-lt below in let fits : 1 * 2 ^ bit % 18446744073709551616 ≡ 2 ^ bit = omega arith in fits
