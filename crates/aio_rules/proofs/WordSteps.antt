-- Each kind of step keeps the rule of the shared words.
use Rattle.std.proofs.Common.{◌≡◌, ◌≢◌, ◌⊎◌, ℕ, ◌+◌, ◌^◌, ◌≤◌, ◌<◌, Bool, true, false, eqb, if◌then◌else◌, true≢false, List, length, length-set, set, get_or, get_or-set_same, get_or-set_other, bit_or, Some, unwrap_or, sym, refl, ap, ◌∙◌, subst, inl, inr, ⊎_elim, ne_eqb, eq-eqb, arith}
use Rattle.std.proofs.lemmas.List.{set-get_or}
use Rattle.std.proofs.lemmas.Option.{none-some}
use mathlib.Core.Option.{some}
use mathlib.Core.Logic.{dite}
use native.Mathlib.Decide.{ℕ_discrete}
use lib.ListN.{get_elem?}
use Rattle.aio_rules.specs.declared.seats.Role.TheVariants as role
use Rattle.aio_rules.specs.declared.seats.Owed.TheVariants as owed
use Rattle.aio_rules.specs.declared.seats.Mode.{Mode}
use Rattle.aio_rules.specs.declared.seats.Mode.TheVariants as mode
use Rattle.aio_rules.specs.declared.seats.WordStep.{WordStep}
use Rattle.aio_rules.specs.declared.seats.WordStep.TheVariants as word_step
use Rattle.aio_rules.specs.declared.seats.SeatView.{SeatView}
use Rattle.aio_rules.specs.SharedWords.{ticker, ticker_place, notified, notified_place, blocked, blocked_place, mask, mask_place, word_count, held, owed_to, blocking, place_of, value_after, after, IsFree, IsTold, AgreesWithWords, WordsAgree}
use Rattle.aio_rules.specs.WordLaws.{CanStep}
use Rattle.aio_rules.proofs.SeatLists.{in_range, where_set}
use Rattle.aio_rules.proofs.WordFrames.{not_both, idle_holds_none, idle_pass, still, mid_call_after, by_seat, others_idle}

pub if_is : {A : Type 0} (x k : ℕ) (a b : A) → x ≡ k → (if eqb x k then a else b) ≡ a
if_is x k a b e = ap (λ (c : Bool). if c then a else b) (eq-eqb x k e)

pub if_is_not : {A : Type 0} (x k : ℕ) (a b : A) → x ≢ k → (if eqb x k then a else b) ≡ b
if_is_not x k a b apart = ap (λ (c : Bool). if c then a else b) (ne_eqb x k apart)

pub one_parker : (i j : ℕ) → Some i ≡ Some j → i ≡ j
one_parker i j e = ap (λ o. unwrap_or o i) e

abbrev is_waiting : Mode → Bool
is_waiting mode.Idle = false
is_waiting (mode.Block i) = false
is_waiting (mode.Wait i) = true

-- a seat that blocks again holds the parker that it held, and does not wait
pub blocking_holds : (m : Mode) → held (blocking m) ≡ held m
blocking_holds mode.Idle = refl
blocking_holds (mode.Block i) = refl
blocking_holds (mode.Wait i) = refl

blocking_waits_not : {A : Type 0} (m : Mode) (i : ℕ) → blocking m ≡ mode.Wait i → A
blocking_waits_not mode.Idle i e = absurd (none-some i (ap held e))
blocking_waits_not (mode.Block j) i e = absurd (true≢false (ap is_waiting (sym e)))
blocking_waits_not (mode.Wait j) i e = absurd (true≢false (ap is_waiting (sym e)))

-- a seat that blocks a parker holds it still after it has looked at its mask
pub looking_holds : (m : Mode) (i found : ℕ) → m ≡ mode.Block i → held (if eqb found 0 then mode.Wait i else m) ≡ held m
looking_holds m i found blocks = dite (ℕ_discrete found 0)
    (λ z. ap held (if_is found 0 (mode.Wait i) m z) ∙ sym (ap held blocks))
    (λ nz. ap held (if_is_not found 0 (mode.Wait i) m nz))

module _ (n : ℕ) (words : List ℕ) (views : List SeatView) (seat : ℕ) (v : SeatView) (rule : WordsAgree n words views) (stands : get_elem? views seat ≡ some v) where
  abbrev mine : AgreesWithWords words views v
  mine = rule.each seat v stands

  -- a word that a step leaves as it found it
  left_alone : (k found : ℕ) (w : SeatView) → get_or words k 0 ≡ found → WordsAgree n words (set views seat w) → WordsAgree n (set words k found) (set views seat w)
  left_alone k found w e kept = subst (λ (l : List ℕ). WordsAgree n l (set views seat w)) (sym (ap (set words k) (sym e) ∙ set-get_or words k 0)) kept

  -- who was told still is, where notified and the mask are as they were and the seat's debt goes on
  pub tells_beside : (now : List ℕ) (w : SeatView) (i : ℕ) → notified now ≡ notified words → mask now i ≡ mask words i → (owed_to v.owes ≡ Some i → owed_to w.owes ≡ Some i)
      → IsTold words views i → IsTold now (set views seat w) i
  tells_beside now w i same_notified same_mask goes_on told woken = ⊎_elim (λ set. inl (same_notified ∙ set)) (λ mid. inr (mid_call_after views seat v w i stands goes_on mid))
      (told (λ z. woken (same_mask ∙ z)))

  -- a seat that owed nothing is not the one that was in mid-call
  pub owed_none : {A : Type 0} (i : ℕ) → v.owes ≡ owed.Nothing → owed_to v.owes ≡ Some i → A
  owed_none i nothing owes = absurd (none-some i (sym (ap owed_to nothing) ∙ owes))

  loads_ticker : (found : ℕ) → ticker words ≡ found → WordsAgree n (set words ticker_place found) (set views seat (after (word_step.LoadTicker found) v))
  loads_ticker found e = let w : SeatView = after (word_step.LoadTicker found) v in
      let tells : (i : ℕ) → IsTold words views i → IsTold words (set views seat w) i = λ i told. tells_beside words w i refl refl (λ o. o) told in
      left_alone ticker_place found w e (by_seat n words views seat v rule stands words w rule.sized refl rule.notified_bit rule.blocked_bit
      (record {
        seen = omega arith;
        exact = λ _. sym e;
        idle = mine.idle;
        flag = mine.flag;
        alone = mine.alone;
        told = λ i waits. tells i (mine.told i waits);
      })
      (λ other u _ _ was. still words words (set views seat w) views u refl (λ _. refl) (λ i _ told. tells i told) was))

  adds_ticker : (found : ℕ) → ticker words ≡ found → v.role ≡ role.Round → WordsAgree n (set words ticker_place (found + 1)) (set views seat (after (word_step.AddTicker found) v))
  adds_ticker found e round = let w : SeatView = after (word_step.AddTicker found) v in let now : List ℕ = set words ticker_place (found + 1) in
      let here : ticker now ≡ found + 1 = get_or-set_same words 0 (found + 1) 0 (let s = rule.sized in omega arith) in
      let beside : (k : ℕ) → k ≢ 0 → get_or now k 0 ≡ get_or words k 0 = λ k apart. get_or-set_other words 0 k (found + 1) 0 apart in
      let flags : (i : ℕ) → blocked now i ≡ blocked words i = λ i. beside (blocked_place i) (λ z. omega arith) in
      let same_notified : notified now ≡ notified words = beside 1 (λ z. omega arith) in
      let exact = mine.exact round in
      by_seat n words views seat v rule stands now w (length-set words 0 (found + 1) ∙ rule.sized) refl (subst (λ (b : ℕ). b ≤ 1) (sym same_notified) rule.notified_bit)
      (λ i. subst (λ (b : ℕ). b ≤ 1) (sym (flags i)) (rule.blocked_bit i))
      (record {
        seen = omega arith;
        exact = λ _. omega arith;
        idle = mine.idle;
        flag = λ i holds. flags i ∙ mine.flag i holds;
        alone = λ _ i set. mine.alone round i (λ z. set (flags i ∙ z));
        told = λ i waits. tells_beside now w i same_notified (beside (mask_place i) (λ z. omega arith)) (λ o. o) (mine.told i waits);
      })
      (others_idle n words views seat v rule stands round now (set views seat w) (omega arith))

  -- a step of a pass on one word beside the ticker and the flags
  module _ (k left : ℕ) (w : SeatView) (pass : v.role ≡ role.Pass) (same_role : w.role ≡ v.role) (same_seen : w.seen ≡ v.seen) (same_mode : w.mode ≡ v.mode) (off_ticker : ticker_place ≢ k) where
    abbrev now : List ℕ
    now = set words k left

    by_pass : notified now ≤ 1 → ((i : ℕ) → blocked now i ≡ blocked words i) → ((i : ℕ) → blocked words i ≡ 1 → IsTold words views i → IsTold now (set views seat w) i)
        → WordsAgree n now (set views seat w)
    by_pass notified_bit flags tells = let tick : ticker now ≡ ticker words = get_or-set_other words k ticker_place left 0 off_ticker in
        by_seat n words views seat v rule stands now w (length-set words k left ∙ rule.sized) same_role notified_bit (λ i. subst (λ (b : ℕ). b ≤ 1) (sym (flags i)) (rule.blocked_bit i))
        (idle_pass words now (set views seat w) w (same_role ∙ pass) (same_mode ∙ mine.idle pass) (let seen = mine.seen in omega arith))
        (λ other u _ _ was. still words now (set views seat w) views u tick flags tells was)

  sets_bit : (i bit found : ℕ) → mask words i ≡ found → i < n → IsFree v
      → WordsAgree n (set words (mask_place i) (bit_or found (2 ^ bit))) (set views seat (after (word_step.SetBit i bit found) v))
  sets_bit i bit found e below free = let w : SeatView = after (word_step.SetBit i bit found) v in let k : ℕ = mask_place i in let left : ℕ = bit_or found (2 ^ bit) in let now : List ℕ = set words k left in
      let beside : (j : ℕ) → j ≢ k → get_or now j 0 ≡ get_or words j 0 = λ j apart. get_or-set_other words k j left 0 apart in
      let same_notified : notified now ≡ notified words = beside notified_place (λ z. omega arith) in
      by_pass k left w free.0 refl refl refl (λ z. omega arith) (subst (λ (b : ℕ). b ≤ 1) (sym same_notified) rule.notified_bit) (λ j. beside (blocked_place j) (λ z. omega arith))
      (λ j _ told. dite (ℕ_discrete j i)
      (λ same woken. dite (ℕ_discrete found 0)
      (λ z. inr (seat, w, where_set views seat w (in_range views seat v stands), ap owed_to (if_is found 0 (owed.Look i) owed.Nothing z) ∙ ap Some (sym same)))
      (λ nz. ⊎_elim (λ set. inl (same_notified ∙ set)) (λ mid. inr (mid_call_after views seat v w j stands (owed_none j free.1) mid))
      (told (λ z. nz (sym e ∙ ap (mask words) (sym same) ∙ z)))))
      (λ apart. tells_beside now w j same_notified (beside (mask_place j) (λ z. apart (omega arith))) (owed_none j free.1) told))

  swaps_mask : (i found : ℕ) → i < n → IsFree v → WordsAgree n (set words (mask_place i) 0) (set views seat (after (word_step.SwapMask i found) v))
  swaps_mask i found below free = let w : SeatView = after (word_step.SwapMask i found) v in let k : ℕ = mask_place i in let now : List ℕ = set words k 0 in
      let beside : (j : ℕ) → j ≢ k → get_or now j 0 ≡ get_or words j 0 = λ j apart. get_or-set_other words k j 0 0 apart in
      let here : mask now i ≡ 0 = get_or-set_same words k 0 0 (let s = rule.sized in omega arith) in
      let same_notified : notified now ≡ notified words = beside notified_place (λ z. omega arith) in
      by_pass k 0 w free.0 refl refl refl (λ z. omega arith) (subst (λ (b : ℕ). b ≤ 1) (sym same_notified) rule.notified_bit) (λ j. beside (blocked_place j) (λ z. omega arith))
      (λ j _ told. dite (ℕ_discrete j i)
      (λ same woken. absurd (woken (ap (mask now) same ∙ here)))
      (λ apart. tells_beside now w j same_notified (beside (mask_place j) (λ z. apart (omega arith))) (owed_none j free.1) told))

  -- where the flag was found 0 no seat waits for this parker, so no debt is lost
  loads_blocked : (i found : ℕ) → blocked words i ≡ found → i < n → v.role ≡ role.Pass → v.owes ≡ owed.Look i
      → WordsAgree n (set words (blocked_place i) found) (set views seat (after (word_step.LoadBlocked i found) v))
  loads_blocked i found e below pass looks = let w : SeatView = after (word_step.LoadBlocked i found) v in let k : ℕ = blocked_place i in let now : List ℕ = set words k found in
      let unchanged : now ≡ words = ap (set words k) (sym e) ∙ set-get_or words k 0 in
      let same : (j : ℕ) → get_or now j 0 ≡ get_or words j 0 = λ j. ap (λ (l : List ℕ). get_or l j 0) unchanged in
      by_pass k found w pass refl refl refl (λ z. omega arith) (subst (λ (b : ℕ). b ≤ 1) (sym (same notified_place)) rule.notified_bit) (λ j. same (blocked_place j))
      (λ j set told. tells_beside now w j (same notified_place) (same (mask_place j))
      (λ owes. let is : i ≡ j = one_parker i j (sym (ap owed_to looks) ∙ owes) in
      ap owed_to (if_is found 1 (owed.Tell i) owed.Nothing (sym e ∙ ap (blocked words) is ∙ set)) ∙ ap Some is)
      told)

  exchanges : (found : ℕ) → notified words ≡ found → v.role ≡ role.Pass
      → WordsAgree n (set words notified_place (value_after (word_step.ExchangeNotified found))) (set views seat (after (word_step.ExchangeNotified found) v))
  exchanges found e pass = let w : SeatView = after (word_step.ExchangeNotified found) v in let left : ℕ = if eqb found 0 then 1 else found in let now : List ℕ = set words notified_place left in
      let one : left ≡ 1 = dite (ℕ_discrete found 0) (λ z. if_is found 0 1 found z) (λ nz. if_is_not found 0 1 found nz ∙ (let b = rule.notified_bit in omega arith)) in
      let here : notified now ≡ 1 = get_or-set_same words 1 left 0 (let s = rule.sized in omega arith) ∙ one in
      by_pass notified_place left w pass refl refl refl (λ z. omega arith) (omega arith) (λ j. get_or-set_other words 1 (blocked_place j) left 0 (λ z. omega arith))
      (λ j _ _ _. inl here)

  -- a step of the round seat that leaves the ticker as it is
  by_round : (now : List ℕ) (w : SeatView) → length now ≡ word_count n → ticker now ≡ ticker words → v.role ≡ role.Round → w.role ≡ v.role → w.seen ≡ v.seen → notified now ≤ 1 → ((i : ℕ) → blocked now i ≤ 1)
      → ((i : ℕ) → held w.mode ≡ Some i → blocked now i ≡ 1) → ((i : ℕ) → blocked now i ≢ 0 → held w.mode ≡ Some i)
      → ((i : ℕ) → w.mode ≡ mode.Wait i → IsTold now (set views seat w) i) → WordsAgree n now (set views seat w)
  by_round now w sized tick round same_role same_seen notified_bit blocked_bit flag alone told = let exact = mine.exact round in
      by_seat n words views seat v rule stands now w sized same_role notified_bit blocked_bit
      (record {
        seen = omega arith;
        exact = λ _. omega arith;
        idle = λ pass. not_both v.role round (sym same_role ∙ pass);
        flag = flag;
        alone = λ _. alone;
        told = told;
      })
      (others_idle n words views seat v rule stands round now (set views seat w) (omega arith))

  stores_blocked : (i value found : ℕ) → i < n → v.role ≡ role.Round → ((value ≡ 1) × (v.mode ≡ mode.Idle)) ⊎ ((value ≡ 0) × (v.mode ≡ mode.Block i))
      → WordsAgree n (set words (blocked_place i) value) (set views seat (after (word_step.StoreBlocked i value found) v))
  stores_blocked i value found below round may = let w : SeatView = after (word_step.StoreBlocked i value found) v in let k : ℕ = blocked_place i in let now : List ℕ = set words k value in
      let beside : (j : ℕ) → j ≢ k → get_or now j 0 ≡ get_or words j 0 = λ j apart. get_or-set_other words k j value 0 apart in
      let beside_flag : (j : ℕ) → j ≢ i → blocked now j ≡ blocked words j = λ j apart. beside (blocked_place j) (λ z. apart (omega arith)) in
      let here : blocked now i ≡ value = get_or-set_same words k value 0 (let s = rule.sized in omega arith) in
      let same_notified : notified now ≡ notified words = beside notified_place (λ z. omega arith) in
      -- the seat blocks the parker where 1 was stored, and is idle where 0 was
      let becomes : ((value ≡ 1) × (w.mode ≡ mode.Block i)) ⊎ ((value ≡ 0) × (w.mode ≡ mode.Idle)) = ⊎_elim
      (λ a. inl (a.0, if_is value 1 (mode.Block i) mode.Idle a.0))
      (λ a. inr (a.0, if_is_not value 1 (mode.Block i) mode.Idle (λ one. let z = a.0 in omega arith))) may in
      -- no other flag was set before
      let others_clear : (j : ℕ) → j ≢ i → blocked words j ≢ 0 → held w.mode ≡ Some j = λ j apart set. let was = mine.alone round j set in ⊎_elim
      (λ a. idle_holds_none v.mode j a.1 was)
      (λ a. absurd (apart (sym (one_parker i j (sym (ap held a.1) ∙ was))))) may in
      by_round now w (length-set words k value ∙ rule.sized) (beside ticker_place (λ z. omega arith)) round refl refl (subst (λ (b : ℕ). b ≤ 1) (sym same_notified) rule.notified_bit)
      (λ j. dite (ℕ_discrete j i)
      (λ same. subst (λ (b : ℕ). b ≤ 1) (sym (ap (blocked now) same ∙ here)) (⊎_elim (λ a. let one = a.0 in omega arith) (λ a. let z = a.0 in omega arith) becomes))
      (λ apart. subst (λ (b : ℕ). b ≤ 1) (sym (beside_flag j apart)) (rule.blocked_bit j)))
      (λ j holds. ⊎_elim
      (λ a. ap (blocked now) (sym (one_parker i j (sym (ap held a.1) ∙ holds))) ∙ here ∙ a.0)
      (λ a. idle_holds_none w.mode j a.1 holds) becomes)
      (λ j set. dite (ℕ_discrete j i)
      (λ same. ⊎_elim (λ a. ap held a.1 ∙ ap Some (sym same)) (λ a. absurd (set (ap (blocked now) same ∙ here ∙ a.0))) becomes)
      (λ apart. others_clear j apart (λ z. set (beside_flag j apart ∙ z))))
      (λ j waits. ⊎_elim
      (λ a. blocking_waits_not (mode.Block i) j (sym a.1 ∙ waits))
      (λ a. idle_holds_none w.mode j a.1 (ap held waits)) becomes)

  -- the seat waits only where it found no woken slot
  loads_mask : (i found : ℕ) → mask words i ≡ found → v.role ≡ role.Round → v.mode ≡ mode.Block i
      → WordsAgree n (set words (mask_place i) found) (set views seat (after (word_step.LoadMask i found) v))
  loads_mask i found e round blocks = let w : SeatView = after (word_step.LoadMask i found) v in
      let holds : held w.mode ≡ held v.mode = looking_holds v.mode i found blocks in
      left_alone (mask_place i) found w e (by_round words w rule.sized refl round refl refl rule.notified_bit rule.blocked_bit
      (λ j h. mine.flag j (sym holds ∙ h))
      (λ j set. holds ∙ mine.alone round j set)
      (λ j waits woken. dite (ℕ_discrete found 0)
      (λ z. let same : j ≡ i = one_parker j i (sym (ap held waits) ∙ holds ∙ ap held blocks) in absurd (woken (ap (mask words) same ∙ e ∙ z)))
      (λ nz. blocking_waits_not (mode.Block i) j (sym blocks ∙ sym (if_is_not found 0 (mode.Wait i) v.mode nz) ∙ waits))))

  swaps_notified : (found : ℕ) → v.role ≡ role.Round → WordsAgree n (set words notified_place 0) (set views seat (after (word_step.SwapNotified found) v))
  swaps_notified found round = let w : SeatView = after (word_step.SwapNotified found) v in let now : List ℕ = set words notified_place 0 in
      let beside : (j : ℕ) → j ≢ 1 → get_or now j 0 ≡ get_or words j 0 = λ j apart. get_or-set_other words 1 j 0 0 apart in
      let here : notified now ≡ 0 = get_or-set_same words 1 0 0 (let s = rule.sized in omega arith) in
      let flags : (i : ℕ) → blocked now i ≡ blocked words i = λ i. beside (blocked_place i) (λ z. omega arith) in
      let holds = blocking_holds v.mode in
      by_round now w (length-set words 1 0 ∙ rule.sized) (beside ticker_place (λ z. omega arith)) round refl refl (omega arith)
      (λ i. subst (λ (b : ℕ). b ≤ 1) (sym (flags i)) (rule.blocked_bit i))
      (λ j h. flags j ∙ mine.flag j (sym holds ∙ h))
      (λ j set. holds ∙ mine.alone round j (λ z. set (flags j ∙ z)))
      (λ j waits. blocking_waits_not v.mode j waits)

pub step_agrees : (n : ℕ) (words : List ℕ) (views : List SeatView) (seat : ℕ) (v : SeatView) (s : WordStep) → CanStep n words views seat v s
    → WordsAgree n (set words (place_of s) (value_after s)) (set views seat (after s v))
step_agrees n words views seat v (word_step.LoadTicker found) can = loads_ticker n words views seat v can.rule.agrees can.stands found can.found
step_agrees n words views seat v (word_step.AddTicker found) can = adds_ticker n words views seat v can.rule.agrees can.stands found can.found can.may.0
step_agrees n words views seat v (word_step.SetBit i bit found) can = sets_bit n words views seat v can.rule.agrees can.stands i bit found can.found can.may.0 can.may.2
step_agrees n words views seat v (word_step.LoadBlocked i found) can = loads_blocked n words views seat v can.rule.agrees can.stands i found can.found can.may.0 can.may.1 can.may.2
step_agrees n words views seat v (word_step.ExchangeNotified found) can = exchanges n words views seat v can.rule.agrees can.stands found can.found can.may.0
step_agrees n words views seat v (word_step.StoreBlocked i value found) can = stores_blocked n words views seat v can.rule.agrees can.stands i value found can.may.0 can.may.1 can.may.2
step_agrees n words views seat v (word_step.SwapMask i found) can = swaps_mask n words views seat v can.rule.agrees can.stands i found can.may.0 can.may.1
step_agrees n words views seat v (word_step.LoadMask i found) can = loads_mask n words views seat v can.rule.agrees can.stands i found can.found can.may.1 can.may.2
step_agrees n words views seat v (word_step.SwapNotified found) can = swaps_notified n words views seat v can.rule.agrees can.stands found can.may.0
