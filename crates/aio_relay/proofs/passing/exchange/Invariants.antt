-- What the turns so far made of both sides goes on from whatever passed before; no block was read yet.
use Rattle.std.proofs.Common.{◌<◌, ◌+◌, None}
use Rattle.aio_pairs.specs.Calls.{CallsFor, HostGoesOn}
use Rattle.aio_pairs.specs.Exchanges.{BothGoOn, IsSameEnd, work_left}
use Rattle.aio_relay.proofs.passing.exchange.Given as goal

abbrev pub invariant-loop-finished : goal.invariant-loop-finished
invariant-loop-finished g l = record {
  passes : BothGoOn g.E.End.end_step g.E.Tells.telling g.E.Faults.is_sure g.E.Faults.fault_count
      (CallsFor g.H.TimerHost.rules g.H.Later.is_later g.H.Later.notifier_is_sure l.initial.w) l.initial.host l.host l.initial.a l.initial.b l.a l.b
      l.initial.from_a l.initial.from_b l.from_a l.from_b l.initial.tally_a l.initial.tally_b l.tally_a l.tally_b ⊥ None;
  room_a : l.tally_a.read < 65536;
  room_b : l.tally_b.read < 65536;
  a_same : IsSameEnd g.E.Tells.telling g.E.Faults.is_sure g.E.Faults.fault_count l.initial.a l.a;
  b_same : IsSameEnd g.E.Tells.telling g.E.Faults.is_sure g.E.Faults.fault_count l.initial.b l.b;
  host : HostGoesOn g.H.TimerHost.rules g.H.Later.is_later l.initial.host l.host;
}

abbrev pub decreases-loop-finished : goal.decreases-loop-finished
decreases-loop-finished g l = work_left l.from_a l.tally_a + work_left l.from_b l.tally_b
