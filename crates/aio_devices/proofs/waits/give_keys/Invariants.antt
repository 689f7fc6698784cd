use Rattle.std.proofs.Common.{◌≡◌, ◌+◌, ◌++◌}
use Rattle.aio_devices.specs.Waits.{key_events}
use Rattle.aio_devices.proofs.waits.give_keys.Given as goal

abbrev pub invariant-loop-key : goal.invariant-loop-key
invariant-loop-key l = record {
  items : l.out.items ≡ l.initial.out.items ++ key_events l.key;
  len : l.out.len ≡ l.initial.out.len + l.key;
  cap : l.out.cap ≡ l.initial.out.cap;
}
