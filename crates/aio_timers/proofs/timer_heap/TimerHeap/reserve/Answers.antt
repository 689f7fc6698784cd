-- The timers stand, and there are more nodes, or as many.
use Rattle.std.proofs.Common.{◌≡◌, ◌-◌, length, arith, ap, ◌∙◌}
use Rattle.aio_timers.specs.Room.{Book}
use Rattle.aio_timers.proofs.SoundLemmas.{used-fits}
use Rattle.aio_timers.proofs.timer_heap.TimerHeap.reserve.Goals as goal

pub invariant_of-self : goal.invariant_of-self
invariant_of-self c = let g = c.in-Err.ensures c.self.inside.root c.self.inside.used c.self.invariant.0 in (g.sound, rw g.entries c.self.invariant.1)

pub invariant_of-self-in-Ok : goal.invariant_of-self-in-Ok
invariant_of-self-in-Ok c = let g = c.in-Ok.ensures c.self.inside.root c.self.inside.used c.self.invariant.0 in (g.sound, rw g.entries c.self.invariant.1)

pub returns-in-Err : goal.returns-in-Err
returns-in-Err c =
    let g = c.in-Err.ensures c.self.inside.root c.self.inside.used c.self.invariant.0 in
    let spare_is : length c.self.inside.nodes - c.self.inside.used ≡ c.args.self.now.spare = ap Book.spare c.self.view_is in
    record {
      entries = g.entries ∙ ap Book.entries c.self.view_is;
      room = tt;
      spare = omega (arith, spare_is, g.len);
      refused = omega (arith, c.spare-spare.ensures.value, c.if-n-spare.false);
    }

pub returns-in-Ok : goal.returns-in-Ok
returns-in-Ok c =
    let g = c.in-Ok.ensures c.self.inside.root c.self.inside.used c.self.invariant.0 in
    let spare_is : length c.self.inside.nodes - c.self.inside.used ≡ c.args.self.now.spare = ap Book.spare c.self.view_is in
    record {
      entries = g.entries ∙ ap Book.entries c.self.view_is;
      room = omega (
        arith,
        spare_is,
        g.len,
        c.in-Some.ensures.enough,
        c.len.ensures,
        c.spare-spare.ensures.value,
        c.if-n-spare.false,
        used-fits c.self.inside.nodes c.self.inside.buckets c.self.inside.root c.self.inside.free c.self.inside.used c.self.invariant.0,
      );
      spare = omega (arith, spare_is, g.len, c.in-Some.ensures.enough, c.len.ensures, c.spare-spare.ensures.value, c.if-n-spare.false);
      refused = tt;
    }
