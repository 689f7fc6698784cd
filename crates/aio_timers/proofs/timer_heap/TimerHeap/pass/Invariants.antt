-- What was taken, and what is still due, are all that was due.
use Rattle.std.proofs.Common.{◌≡◌, ◌+◌, ◌≤◌, ◌++◌, length, vec_len, vec_capacity}
use Rattle.aio_base.specs.Timers.{due_wakers, after_pass}
use Rattle.aio_timers.proofs.timer_heap.TimerHeap.pass.Given as goal

abbrev pub invariant-loop : goal.invariant-loop
invariant-loop l = record {
  taken : l.taken.items ++ due_wakers l.fn.now l.self.entries ≡ l.initial.taken.items ++ due_wakers l.fn.now l.initial.self.entries;
  left : after_pass l.fn.now l.self.entries ≡ after_pass l.fn.now l.initial.self.entries;
  size : length l.self.entries + l.counter ≡ length l.initial.self.entries;
  room : vec_len l.taken + length (due_wakers l.fn.now l.self.entries) ≤ vec_capacity l.taken;
  capacity : vec_capacity l.taken ≡ vec_capacity l.initial.taken;
  spare : l.initial.self.spare ≤ l.self.spare;
}
