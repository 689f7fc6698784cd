use Rattle.std.proofs.Common.{◌≡◌, ℕ, ◌<◌}
use Rattle.aio_work.specs.Slots.{held_at}
use Rattle.aio_work.specs.declared.slots.Held.TheVariants as held
use Rattle.aio_work.proofs.slots.first_due.Given as goal

-- no task before this slot is due
abbrev pub invariant-loop-slot : goal.invariant-loop-slot
invariant-loop-slot l = (slot place : ℕ) → slot < l.slot → ¬ (held_at l.slots slot ≡ held.Due place)
