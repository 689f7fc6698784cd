-- The steps of a wake and of a park, by what they found.
use Rattle.std.proofs.Common.{◌≡◌, ◌≢◌, ℕ, zero, suc, ◌/◌, ◌%◌, ◌≤◌, ◌||◌, Bool, true, false, eqb, if◌then◌else◌, List, [], ◌∷◌, ◌++◌, append_assoc, append-nil, replicate, sym, refl, ap, ◌∙◌}
use Rattle.std.proofs.lemmas.Bool.{le-ltb}
use Rattle.aio_rules.specs.declared.seats.Owed.TheVariants as owed
use Rattle.aio_rules.specs.declared.seats.WordStep.{WordStep}
use Rattle.aio_rules.specs.declared.seats.WordStep.TheVariants as word_step
use Rattle.aio_rules.specs.declared.seats.SeatView.{SeatView}
use Rattle.aio_rules.specs.SharedWords.{after}
use Rattle.aio_rules.specs.WordCalls.{and_did, Found, slot_steps, wake_steps, wins}
use Rattle.aio_rules.proofs.WordSteps.{if_is, if_is_not}
use Rattle.aio_words.specs.Seats.{SeatValue}
use Rattle.aio_words.specs.Steps.{stepped, did_all}
use Rattle.aio_words.specs.Calls.{WakesSlot}

-- a view of which only the debt and the list of steps changed, where the debt is nothing again
settled : (v w : SeatView) (steps : List WordStep) → w.role ≡ v.role → w.seen ≡ v.seen → w.owes ≡ v.owes → w.mode ≡ v.mode → w.did ≡ v.did ++ steps → w.splits ≡ v.splits → w.lineage ≡ v.lineage → w.joined ≡ v.joined
    → w.joined_splits ≡ v.joined_splits → w ≡ and_did steps v
settled v w steps role seen owes mode did splits lineage joined joined_splits = λ k. record {
  role = role k;
  seen = seen k;
  owes = owes k;
  mode = mode k;
  did = did k;
  splits = splits k;
  lineage = lineage k;
  joined = joined k;
  joined_splits = joined_splits k;
}

or_false : (b : Bool) → (b || false) ≡ b
or_false true = refl
or_false false = refl

module _ (parker slot in_mask in_blocked in_notified : ℕ) where
  abbrev pub found : Found
  found = record { in_mask = in_mask; in_blocked = in_blocked; in_notified = in_notified }

  abbrev sets : WordStep
  sets = word_step.SetBit parker slot in_mask

  abbrev looks : WordStep
  looks = word_step.LoadBlocked parker in_blocked

  abbrev exchanges : WordStep
  exchanges = word_step.ExchangeNotified in_notified

  -- the steps in each of the three cases
  sets_alone : in_mask ≢ 0 → slot_steps parker slot found ≡ sets ∷ []
  sets_alone some = ap (λ (l : List WordStep). sets ∷ l) (if_is_not in_mask 0 (looks ∷ (if eqb in_blocked 1 then exchanges ∷ [] else [])) [] some)

  looks_too : in_mask ≡ 0 → slot_steps parker slot found ≡ sets ∷ looks ∷ (if eqb in_blocked 1 then exchanges ∷ [] else [])
  looks_too none = ap (λ (l : List WordStep). sets ∷ l) (if_is in_mask 0 (looks ∷ (if eqb in_blocked 1 then exchanges ∷ [] else [])) [] none)

  looks_last : in_mask ≡ 0 → in_blocked ≢ 1 → slot_steps parker slot found ≡ sets ∷ looks ∷ []
  looks_last none clear = looks_too none ∙ ap (λ (l : List WordStep). sets ∷ looks ∷ l) (if_is_not in_blocked 1 (exchanges ∷ []) [] clear)

  exchanges_last : in_mask ≡ 0 → in_blocked ≡ 1 → slot_steps parker slot found ≡ sets ∷ looks ∷ exchanges ∷ []
  exchanges_last none set = looks_too none ∙ ap (λ (l : List WordStep). sets ∷ looks ∷ l) (if_is in_blocked 1 (exchanges ∷ []) [] set)

  -- Each case over the seats that contracts see.
  module _ (old : SeatValue) (owes : old.view.owes ≡ owed.Nothing) where
    at_last : (steps : List WordStep) (new : SeatValue) → new ≡ record old { view = and_did steps old.view } → slot_steps parker slot found ≡ steps → (won : Bool) → won ≡ wins steps
        → WakesSlot parker slot old new won
    at_last steps new did steps_are won won_is = record {
      found = found;
      did = did ∙ ap (λ (l : List WordStep). did_all l old) (sym steps_are);
      won_is = won_is ∙ ap wins (sym steps_are);
    }

    pub woke_by_bit : (new : SeatValue) → new ≡ stepped sets old → in_mask ≢ 0 → WakesSlot parker slot old new false
    woke_by_bit new made some = at_last (sets ∷ []) new
        (made ∙ ap (λ (w : SeatView). record old { view = w }) (settled old.view (after sets old.view) (sets ∷ []) refl refl (if_is_not in_mask 0 (owed.Look parker) owed.Nothing some ∙ sym owes) refl refl refl refl refl refl))
        (sets_alone some) false refl

    pub woke_by_look : (mid new : SeatValue) → mid ≡ stepped sets old → new ≡ stepped looks mid → in_mask ≡ 0 → in_blocked ≢ 1 → WakesSlot parker slot old new false
    woke_by_look mid new first second none clear = at_last (sets ∷ looks ∷ []) new
        (second ∙ ap (stepped looks) first ∙ ap (λ (w : SeatView). record old { view = w }) (settled old.view (after looks (after sets old.view)) (sets ∷ looks ∷ []) refl refl
        (if_is_not in_blocked 1 (owed.Tell parker) owed.Nothing clear ∙ sym owes) refl (append_assoc old.view.did (sets ∷ []) (looks ∷ [])) refl refl refl refl))
        (looks_last none clear) false refl

    pub woke_by_exchange : (mid late new : SeatValue) → mid ≡ stepped sets old → late ≡ stepped looks mid → new ≡ stepped exchanges late → in_mask ≡ 0 → in_blocked ≡ 1
        → WakesSlot parker slot old new (eqb in_notified 0)
    woke_by_exchange mid late new first second third none set = at_last (sets ∷ looks ∷ exchanges ∷ []) new
        (third ∙ ap (stepped exchanges) (second ∙ ap (stepped looks) first) ∙ ap (λ (w : SeatView). record old { view = w })
        (settled old.view (after exchanges (after looks (after sets old.view))) (sets ∷ looks ∷ exchanges ∷ []) refl refl (sym owes) refl
        (append_assoc (old.view.did ++ sets ∷ []) (looks ∷ []) (exchanges ∷ []) ∙ append_assoc old.view.did (sets ∷ []) (looks ∷ exchanges ∷ [])) refl refl refl refl))
        (exchanges_last none set) (eqb in_notified 0) (sym (or_false (eqb in_notified 0)))

-- a waker of no parker takes no step
module _ (waker parkers : ℕ) (none : parkers ≤ waker / 64) where
  pub no_steps : (f : Found) → wake_steps waker parkers f ≡ []
  no_steps f = ap (λ (b : Bool). if b then slot_steps (waker / 64) (waker % 64) f else []) (le-ltb (waker / 64) parkers none)

  pub untouched : (f : Found) (v : SeatView) → v ≡ and_did (wake_steps waker parkers f) v
  untouched f v = settled v v (wake_steps waker parkers f) refl refl refl refl (sym (ap (λ l. v.did ++ l) (no_steps f) ∙ append-nil v.did)) refl refl refl refl

-- a step at the end of some that are the same is one at their head
at_head : (s : WordStep) (k : ℕ) → replicate k s ++ s ∷ [] ≡ s ∷ replicate k s
at_head s zero = refl
at_head s (suc k) = ap (λ (l : List WordStep). s ∷ l) (at_head s k)

-- a view after swaps of a mask that found no woken slot, so many, and after one more, whichever way its parker is named
pub looked_again : (parker named idle : ℕ) (before mid new : SeatView) → mid ≡ and_did (replicate idle (word_step.SwapMask parker 0)) before
    → new ≡ after (word_step.SwapMask named 0) mid → named ≡ parker → new ≡ and_did (replicate (suc idle) (word_step.SwapMask parker 0)) before
looked_again parker named idle before mid new so_far made same = let s = word_step.SwapMask parker 0 in
    made ∙ (λ k. after (word_step.SwapMask (same k) 0) (so_far k)) ∙ ap (λ steps. record before { did = steps }) (append_assoc before.did (replicate idle s) (s ∷ []) ∙ ap (λ l. before.did ++ l) (at_head s idle))
