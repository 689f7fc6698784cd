use Rattle.std.proofs.Common.{◌≡◌}
use Rattle.aio_devices.proofs.blocking.BlockingWait.look.Given as goal

abbrev pub invariant-loop : goal.invariant-loop
invariant-loop g l = l.out ≡ l.initial.out
