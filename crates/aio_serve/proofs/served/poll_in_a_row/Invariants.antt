-- The polls so far were all Pending, and the clock has the same bounds.
use Rattle.std.proofs.Common.{◌≡◌}
use Rattle.aio_places.specs.SourceEnds.{EntersShared, told_by, is_sure_end}
use Rattle.aio_relay.specs.Pairs.{PollsTask}
use Rattle.aio_shared.specs.Inside.{IsLaterInside, inside_rules}
use Rattle.aio_serve.specs.Served.{latest_at}
use Rattle.aio_serve.proofs.InARow.{SoFar}
use Rattle.aio_serve.proofs.served.poll_in_a_row.Given as goal

abbrev pub invariant-loop-end : goal.invariant-loop-end
invariant-loop-end g l =
    SoFar (PollsTask (EntersShared g.C.Conn.conn_step g.C.Arm.arm_step g.C.Arm.interests g.C.Arm.rest g.C.Faults.fault_count g.C.Faults.is_sure)
    (λ end. told_by end.rest) (λ end. is_sure_end end.rest end.told) (λ end. end.told)
    (inside_rules g.N.Notify.call_count g.N.Faults.fault_count g.N.Notify.notify_step) (IsLaterInside g.N.Faults.fault_count g.N.Faults.is_sure) (λ i. g.N.Faults.is_sure i.member.notifier))
    g.N.Faults.fault_count g.N.Faults.is_sure (latest_at (g.K.Clock.bounds l.initial.clock) l.fn.cx.now) l.initial.pair l.initial.host l.fn.cx l.pair l.host l.polls_left
    × (g.K.Clock.bounds l.clock ≡ g.K.Clock.bounds l.initial.clock)

abbrev pub decreases-loop-end : goal.decreases-loop-end
decreases-loop-end g l = l.polls_left
