use Rattle.std.proofs.Common.{ℕ, ◌≤◌, List}
use Rattle.aio_park.specs.Groups.{SlotsGive}
use Rattle.aio_park.proofs.Polling.{PolledBefore}
use Rattle.aio_park.proofs.group.poll_woken.Given as goal

-- the slots before this one were polled, and what the slots allow now they allowed before
abbrev pub invariant-loop-at : goal.invariant-loop-at
invariant-loop-at g l = PolledBefore g.T.Task.poll_step g.T.Task.poll_count l.parker l.cx l.at l.initial.slots l.initial.host l.slots l.host
    × ((moment : ℕ) (outputs : List _) → l.cx.now ≤ moment → SlotsGive g.T.Task.gives l.slots (g.H.Later.notifier_is_sure l.initial.host) moment outputs
    → SlotsGive g.T.Task.gives l.initial.slots (g.H.Later.notifier_is_sure l.initial.host) moment outputs)
    × g.H.Later.is_later l.initial.host l.host
