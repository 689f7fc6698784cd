use Rattle.std.proofs.Common.{◌≡◌, ◌<◌, ℕ, false, get_or, None, is_none}
use Rattle.aio_source.proofs.key_table.first_free_place.Given as goal

-- no place before this one is free
abbrev pub invariant-loop-place : goal.invariant-loop-place
invariant-loop-place g l = (k : ℕ) → k < l.place → is_none (get_or l.places k None) ≡ false
