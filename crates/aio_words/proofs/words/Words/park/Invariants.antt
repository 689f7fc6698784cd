use Rattle.std.proofs.Common.{◌≡◌, ℕ, replicate}
use Rattle.aio_rules.specs.declared.seats.WordStep.TheVariants as word_step
use Rattle.aio_rules.specs.WordCalls.{and_did}
use Rattle.aio_words.proofs.words.Words.park.Given as goal

-- each look so far found no woken slot
abbrev pub invariant-loop : goal.invariant-loop
invariant-loop g l = let before = l.initial.p in (l.p.words ≡ before.words) × ((looks : ℕ) × (l.p.view ≡ and_did (replicate looks (word_step.SwapMask l.parker 0)) before.view))
