-- The polls of a group's slots one after the other, and what slots allow before one of them was polled and after.
use Rattle.std.proofs.Common.{◌≡◌, ℕ, zero, suc, ◌+◌, ◌<◌, Bool, List, [], ◌∷◌, ◌++◌, map, length, take, drop, set, get_or, take_all, drop-set-lt, append_assoc, append-nil, refl, sym, ap, ◌∙◌, subst, arith}
use Rattle.std.proofs.lemmas.List.{drop_more, take_more_set}
use Rattle.aio_base.specs.declared.tasks.Cx.{Cx}
use Rattle.aio_base.specs.declared.outcomes.Poll.{Poll}
use Rattle.aio_park.specs.declared.group.Slot.{Slot}
use Rattle.aio_park.specs.declared.group.Slot.TheVariants.{Ended}
use Rattle.aio_park.specs.Groups.{is_woken, slot_cx, SlotAfter, SlotsAfter, SlotGives, SlotsGive}

drop_whole : {X : Type 0} (xs : List X) → drop (length xs) xs ≡ []
drop_whole [] = refl
drop_whole (x ∷ xs) = drop_whole xs

-- the slots that a list has for its own, where others follow
pub own_front : {X : Type 0} (xs others : List X) (n : ℕ) → n ≡ length xs → take n (xs ++ others) ≡ xs
own_front [] others zero all = refl
own_front [] others (suc n) all = absurd (omega arith)
own_front (x ∷ xs) others zero all = absurd (omega arith)
own_front (x ∷ xs) others (suc n) all = ap (λ l. x ∷ l) (own_front xs others n (omega arith))

module _ {T O H : Type 0} (step : T → H → Cx → Poll O → T → H → Type 0) (polls : T → ℕ) where
  -- The slots before this one were polled: whatever the polls of the others make of them, it joins what was made of those.
  abbrev pub PolledBefore : ℕ → Cx → ℕ → List (Slot T O) → H → List (Slot T O) → H → Type 0
  PolledBefore parker cx i old host now by =
      (after : List (Slot T O)) (left : H) → SlotsAfter step polls parker i cx (drop i now) by after left → SlotsAfter step polls parker 0 cx old host (take i now ++ after) left

  pub polled_further : (parker i : ℕ) (cx : Cx) (old : List (Slot T O)) (host : H) (now : List (Slot T O)) (d new : Slot T O) (by later : H) → i < length now → PolledBefore parker cx i old host now by
      → SlotAfter step polls (is_woken cx.mask i) (slot_cx parker i cx) (get_or now i d) by new later → PolledBefore parker cx (i + 1) old host (set now i new) later
  polled_further parker i cx old host now d new by later below so_far one = λ after left rest.
      let same : drop (i + 1) (set now i new) ≡ drop (i + 1) now = drop-set-lt (i + 1) now i new (omega arith) in
      let others : SlotsAfter step polls parker (i + 1) cx (drop (i + 1) now) later after left = subst (λ l. SlotsAfter step polls parker (i + 1) cx l later after left) same rest in
      let from : SlotsAfter step polls parker i cx (drop i now) by (new ∷ after) left =
      subst (λ l. SlotsAfter step polls parker i cx l by (new ∷ after) left) (sym (drop_more now i d below)) (later, one, others) in
      let joined : take (i + 1) (set now i new) ++ after ≡ take i now ++ new ∷ after =
      ap (λ l. l ++ after) (take_more_set now i new below) ∙ append_assoc (take i now) (new ∷ []) after in
      subst (λ l. SlotsAfter step polls parker 0 cx old host l left) (sym joined) (so_far (new ∷ after) left from)

  pub polled_all : (parker i : ℕ) (cx : Cx) (old : List (Slot T O)) (host : H) (now : List (Slot T O)) (by : H) → i ≡ length now → PolledBefore parker cx i old host now by
      → SlotsAfter step polls parker 0 cx old host now by
  polled_all parker i cx old host now by all so_far =
      let none : drop i now ≡ [] = ap (λ k. drop k now) all ∙ drop_whole now in
      let whole : take i now ++ [] ≡ now = append-nil (take i now) ∙ take_all i now (omega arith) in
      subst (λ l. SlotsAfter step polls parker 0 cx old host l by) whole (so_far [] by (subst (λ l. SlotsAfter step polls parker i cx l by [] by) (sym none) refl))

module _ {T O : Type 0} (gives : T → Bool → ℕ → O → Type 0) where
  -- what slots allow of which one was polled they allowed before, if that one did
  pub give_before : (now : List (Slot T O)) (i : ℕ) (d new : Slot T O) (sure : Bool) (moment : ℕ) → i < length now
      → ((output : O) → SlotGives gives new sure moment output → SlotGives gives (get_or now i d) sure moment output)
      → (outputs : List O) → SlotsGive gives (set now i new) sure moment outputs → SlotsGive gives now sure moment outputs
  give_before [] i d new sure moment below one outputs given = absurd (omega arith)
  give_before (slot ∷ slots) zero d new sure moment below one [] given = given
  give_before (slot ∷ slots) zero d new sure moment below one (output ∷ outputs) given = (one output given.0, given.1)
  give_before (slot ∷ slots) (suc i) d new sure moment below one [] given = given
  give_before (slot ∷ slots) (suc i) d new sure moment below one (output ∷ outputs) given =
      (given.0, give_before slots i d new sure moment (omega arith) one outputs given.1)

  -- slots that have all ended allow their answers
  pub ended_give : (outputs : List O) (sure : Bool) (moment : ℕ) → SlotsGive gives (map Ended outputs) sure moment outputs
  ended_give [] sure moment = tt
  ended_give (output ∷ outputs) sure moment = (refl, ended_give outputs sure moment)
