use Rattle.std.proofs.Common.{◌≡◌, ℕ}
use Rattle.aio_work.specs.Shifts.{WorksOn}
use Rattle.aio_work.proofs.shifts.Shift.work.Given as goal

-- so far the worker found and polled some tasks
abbrev pub invariant-loop : goal.invariant-loop
invariant-loop g l = record {
  turns : ℕ;
  works : WorksOn g.K.Task.poll_step l.parker l.now turns l.initial.self.workload l.initial.host l.self.workload l.host;
  later : g.H.Later.is_later l.initial.host l.host;
  polls : l.self.polls ≡ l.initial.self.polls;
}
