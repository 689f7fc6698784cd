use Rattle.std.proofs.Common.{◌≡◌, ◌+◌, ◌≤◌, ◌++◌, drop, length, vec_len, vec_capacity}
use Rattle.aio_script.specs.Interests.{cleared}
use Rattle.aio_script.proofs.poller.give_out.Given as goal

abbrev pub invariant-loop-event : goal.invariant-loop-event
invariant-loop-event l = record {
  rest : cleared (drop l.event-index l.events) l.armed ≡ cleared l.events l.initial.armed;
  given : l.out.items ++ drop l.event-index l.events ≡ l.initial.out.items ++ l.events;
  room : vec_len l.out + length l.events ≤ vec_capacity l.out + l.event-index;
  capacity : vec_capacity l.out ≡ vec_capacity l.initial.out;
}
