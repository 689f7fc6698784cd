use Rattle.std.proofs.Common.{◌≡◌, ◌≤◌}
use Rattle.std.specs.Prelude.{vec_len, vec_capacity}
use Rattle.aio_serve.specs.Accepted.{HandedOut}
use Rattle.aio_serve.proofs.accepting.accept_all.Given as goal

abbrev pub invariant-loop-accepted : goal.invariant-loop-accepted
invariant-loop-accepted g l = record {
  handed : HandedOut (g.P.Port.waiting l.fn.port) l.conns.items (g.P.Port.waiting l.port);
  count : vec_len l.conns ≡ l._accepted;
  room : l.count ≤ vec_capacity l.conns;
  faults : g.P.Faults.fault_count l.fn.port ≤ g.P.Faults.fault_count l.port;
}
