use Rattle.std.proofs.Common.{◌≡◌, drop, length, map, take}
use Rattle.aio_base.specs.declared.names.Waker.{Waker}
use Rattle.aio_c.proofs.rounds.write_wakers.Given as goal

-- the first numbers were written, and the places behind are as they were
abbrev pub invariant-loop-at : goal.invariant-loop-at
invariant-loop-at l = record {
  front : take l.at l.slots ≡ map (λ (waker : Waker). waker.0) (take l.at l.woken);
  back : drop l.at l.slots ≡ drop l.at l.initial.slots;
  len : length l.slots ≡ length l.initial.slots;
}
