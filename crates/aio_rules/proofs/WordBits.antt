-- Which steps take bits out of a mask, and what a wait with a woken slot says.
use Rattle.std.proofs.Common.{◌≡◌, ◌≢◌, ℕ, ◌+◌, ◌*◌, ◌^◌, ◌≤◌, ◌<◌, true≢false, List, length, set, get_or, get_or-set_same, get_or-set_other, bit_or, sym, ap, ◌∙◌, subst, eq-eqb, arith}
use Rattle.std.proofs.lemmas.List.{set-get_or}
use Rattle.std.proofs.lemmas.Nat.Bits.{bit_at_or}
use Rattle.std.specs.Int.{bit_at}
use mathlib.Core.Logic.{dite}
use native.Mathlib.Decide.{ℕ_discrete}
use Rattle.aio_rules.specs.declared.seats.WordStep.TheVariants as word_step
use Rattle.aio_rules.specs.SharedWords.{mask, mask_place, blocked_place, ticker_place, notified_place, value_after}
use Rattle.aio_rules.specs.WordLaws.{OnlySwapTakesBits}

module _ (words : List ℕ) (i bit : ℕ) where
  abbrev Keeps : List ℕ → Type 0
  Keeps now = bit_at (mask words i) bit ≤ bit_at (mask now i) bit

  -- a step on another word
  elsewhere : (k left : ℕ) → mask_place i ≢ k → Keeps (set words k left)
  elsewhere k left apart = subst (λ (m : ℕ). bit_at (mask words i) bit ≤ bit_at m bit) (sym (get_or-set_other words k (mask_place i) left 0 apart)) (omega arith)

  -- a step that leaves what it found
  as_found : (k found : ℕ) → get_or words k 0 ≡ found → Keeps (set words k found)
  as_found k found e = subst Keeps (sym (ap (set words k) (sym e) ∙ set-get_or words k 0)) (omega arith)

  -- a step that sets a bit of this mask
  adds_bit : (slot found : ℕ) → mask words i ≡ found → mask_place i < length words → Keeps (set words (mask_place i) (bit_or found (2 ^ slot)))
  adds_bit slot found e below = let left : ℕ = bit_or found (2 ^ slot) in let more = bit_at_or found (2 ^ slot) bit in
      subst (λ (m : ℕ). bit_at (mask words i) bit ≤ bit_at m bit) (sym (get_or-set_same words (mask_place i) left 0 below))
      (subst (λ (m : ℕ). bit_at m bit ≤ bit_at left bit) (sym e) (omega arith))

pub only_swap_takes_bits : OnlySwapTakesBits
only_swap_takes_bits n words views seat v (word_step.LoadTicker found) i bit can other = as_found words i bit ticker_place found can.found
only_swap_takes_bits n words views seat v (word_step.AddTicker found) i bit can other = elsewhere words i bit ticker_place (found + 1) (λ z. omega arith)
only_swap_takes_bits n words views seat v (word_step.SetBit j slot found) i bit can other = dite (ℕ_discrete j i)
    (λ same. subst (λ (k : ℕ). bit_at (mask words i) bit ≤ bit_at (mask (set words (mask_place k) (bit_or found (2 ^ slot))) i) bit) (sym same)
    (adds_bit words i bit slot found (sym (ap (mask words) same) ∙ can.found) (let s = can.rule.agrees.sized in let below = can.may.0 in omega arith)))
    (λ apart. elsewhere words i bit (mask_place j) (bit_or found (2 ^ slot)) (λ z. apart (let e : 3 + 2 * i ≡ 3 + 2 * j = z in omega arith)))
only_swap_takes_bits n words views seat v (word_step.LoadBlocked j found) i bit can other = as_found words i bit (blocked_place j) found can.found
only_swap_takes_bits n words views seat v (word_step.ExchangeNotified found) i bit can other = elsewhere words i bit notified_place (value_after (word_step.ExchangeNotified found)) (λ z. omega arith)
only_swap_takes_bits n words views seat v (word_step.StoreBlocked j value found) i bit can other = elsewhere words i bit (blocked_place j) value (λ z. let e : 3 + 2 * i ≡ 2 + 2 * j = z in omega arith)
only_swap_takes_bits n words views seat v (word_step.SwapMask j found) i bit can other = elsewhere words i bit (mask_place j) 0
    (λ z. let same : i ≡ j = (let e : 3 + 2 * i ≡ 3 + 2 * j = z in omega arith) in true≢false (sym (eq-eqb i j same) ∙ other))
only_swap_takes_bits n words views seat v (word_step.LoadMask j found) i bit can other = as_found words i bit (mask_place j) found can.found
only_swap_takes_bits n words views seat v (word_step.SwapNotified found) i bit can other = elsewhere words i bit notified_place 0 (λ z. omega arith)
