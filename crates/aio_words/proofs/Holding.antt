-- The round seat between calls: which parker it holds, and what stays of it over a step.
use Rattle.std.proofs.Common.{◌≡◌, ℕ, ◌+◌, ◌*◌, ◌<◌, Bool, true, false, if◌then◌else◌, refl, sym, ap, ◌∙◌, arith}
use Rattle.aio_rules.specs.declared.seats.Mode.{Mode}
use Rattle.aio_rules.specs.declared.seats.Mode.TheVariants as mode
use Rattle.aio_rules.specs.declared.seats.WordStep.TheVariants as word_step
use Rattle.aio_rules.specs.SharedWords.{after, held, word_count}
use Rattle.aio_rules.proofs.WordSteps.{if_is}
use Rattle.aio_words.specs.Seats.{SeatValue, HoldsOnly, is_waiting}
use Rattle.aio_words.specs.Steps.{stepped}

-- a seat that holds the parker that it held
pub holds_still : (old new : Mode) (parker words : ℕ) → held new ≡ held old → HoldsOnly old parker words → HoldsOnly new parker words
holds_still old new parker words same holds i h = holds i (sym same ∙ h)

-- a seat that blocks a parker waits after a look at its mask exactly where that was 0
pub looking_waits : (found : Bool) (m : Mode) (parker : ℕ) → m ≡ mode.Block parker → found ≡ is_waiting (if found then mode.Wait parker else m)
looking_waits true m parker blocks = refl
looking_waits false m parker blocks = sym (ap is_waiting blocks)

-- After a look at the mask of the parker that a seat blocks, whichever way that parker is named.
module _ (old new : SeatValue) (blocked mask : ℕ) (looked : new ≡ stepped (word_step.LoadMask blocked mask) old) (parker : ℕ) (named : parker ≡ blocked) where
  pub saw : (found : ℕ) → mask ≡ found → new.view ≡ after (word_step.LoadMask parker found) old.view
  saw found is = ap (λ s. s.view) looked ∙ (λ k. after (word_step.LoadMask (sym named k) (is k)) old.view)

  pub waits_at_zero : mask ≡ 0 → new.view.mode ≡ mode.Wait parker
  waits_at_zero zero_found = ap (λ s. s.view.mode) looked ∙ if_is mask 0 (mode.Wait blocked) old.view.mode zero_found ∙ ap mode.Wait (sym named)

module _ (m : Mode) (parker words : ℕ) (holds : HoldsOnly m parker words) (i : ℕ) (blocks : m ≡ mode.Block i) where
  -- the parker that the seat blocks stands in the seat
  pub the_parker : i ≡ parker
  the_parker = (holds i (ap held blocks)).0

  pub blocks_it : m ≡ mode.Block parker
  blocks_it = blocks ∙ ap mode.Block the_parker

  -- and is one of those that there are
  pub in_words : (n : ℕ) → words ≡ word_count n → parker < n
  in_words n many = let same = the_parker in let below : 3 + 2 * i < words = (holds i (ap held blocks)).1 in let e : words ≡ 2 + 2 * n = many in omega arith
