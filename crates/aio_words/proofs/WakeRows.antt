-- The steps of wakes that are made one after the other, computed.
use Rattle.std.proofs.Common.{◌≡◌, ℕ, List, [], ◌∷◌, refl}
use Rattle.aio_base.specs.declared.names.Waker.{Waker}
use Rattle.aio_rules.specs.declared.seats.WordStep.TheVariants as word_step
use Rattle.aio_rules.specs.WordCalls.{Found}
use Rattle.aio_words.specs.Calls.{all_wake_steps}

-- slot 0 is woken while the round seat waits
abbrev found : Found
found = record { in_mask = 0; in_blocked = 1; in_notified = 0 }

abbrev waker : ℕ → Waker
waker n = record { 0 = n }

-- two wakers of parker 0, of which the first tells and the second finds its mask no longer empty, and one of no parker between them
wakes_in_order : all_wake_steps (waker 0 ∷ waker 64 ∷ waker 5 ∷ []) 1 (found ∷ found ∷ record found { in_mask = 1 } ∷ [])
    ≡ word_step.SetBit 0 0 0 ∷ word_step.LoadBlocked 0 1 ∷ word_step.ExchangeNotified 0 ∷ word_step.SetBit 0 5 1 ∷ []
wakes_in_order = refl
