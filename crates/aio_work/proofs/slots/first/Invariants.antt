use Rattle.std.proofs.Common.{◌≡◌, ℕ, ◌<◌}
use Rattle.aio_work.specs.Slots.{held_at}
use Rattle.aio_work.proofs.slots.first.Given as goal

-- no slot before this one has it
abbrev pub invariant-loop-slot : goal.invariant-loop-slot
invariant-loop-slot l = (slot : ℕ) → slot < l.slot → ¬ (held_at l.slots slot ≡ l.held)
