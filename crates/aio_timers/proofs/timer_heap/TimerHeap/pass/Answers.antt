-- Each round takes the front while it is due.
use Rattle.std.proofs.Common.{◌<◌, subst, ◌++◌, [], ◌∷◌, List, length, arith, ap, sym, ◌∙◌, append_assoc}
use Rattle.std.specs.List.{All}
use Rattle.aio_base.specs.declared.names.Waker.{Waker}
use Rattle.aio_base.specs.World.{Registration}
use Rattle.aio_base.specs.Timers.{due_wakers}
use Rattle.aio_timers.proofs.PassLemmas.{later-after_pass, Ends, ends, Takes, takes}
use Rattle.aio_timers.proofs.FrontLemmas.{append-nil}
use Rattle.aio_timers.proofs.timer_heap.TimerHeap.pass.Goals as goal

pub returns-then-not-is_first_due : goal.returns-then-not-is_first_due
returns-then-not-is_first_due c =
    let e : Ends c.args.now c.loop.self.entries = ends c.args.now c.loop.self.entries c.is_first_due.ensures.order (sym c.is_first_due.ensures.value ∙ c.if-not-is_first_due.true) in
    record {
      taken = sym (append-nil c.loop.taken.items) ∙ ap (λ (ws : List Waker). c.loop.taken.items ++ ws) (sym e.due) ∙ c.loop.invariant.taken;
      capacity = c.loop.invariant.capacity;
      entries = sym e.left ∙ c.loop.invariant.left;
      later = subst (λ (rs : List Registration). All (λ (r : Registration). c.args.now < r.deadline) rs) e.left (later-after_pass c.args.now c.loop.self.entries);
      spare = c.loop.invariant.spare;
    }

pub push_reserved-requires : goal.push_reserved-requires
push_reserved-requires c =
    let t : Takes c.args.now c.loop.self.entries c.take_first-waker.new.self.entries c.take_first-waker.result = takes c.args.now c.loop.self.entries c.take_first-waker.new.self.entries c.take_first-waker.ensures.entries.0 c.take_first-waker.result c.is_first_due.ensures.order
    (sym c.is_first_due.ensures.value ∙ c.if-not-is_first_due.false) c.take_first-waker.ensures.entries.1 c.take_first-waker.ensures.entries.2 in
    omega (arith, c.loop.invariant.room, ap (λ (ws : List Waker). length ws) t.due)

pub loop-preserved : goal.loop-preserved
loop-preserved c =
    let t : Takes c.args.now c.loop.self.entries c.take_first-waker.new.self.entries c.take_first-waker.result = takes c.args.now c.loop.self.entries c.take_first-waker.new.self.entries c.take_first-waker.ensures.entries.0 c.take_first-waker.result c.is_first_due.ensures.order
    (sym c.is_first_due.ensures.value ∙ c.if-not-is_first_due.false) c.take_first-waker.ensures.entries.1 c.take_first-waker.ensures.entries.2 in
    record {
      taken = rw c.push_reserved.ensures.items (append_assoc c.loop.taken.items (c.take_first-waker.result ∷ []) (due_wakers c.args.now c.take_first-waker.new.self.entries) ∙ ap (λ (ws : List Waker). c.loop.taken.items ++ ws) (sym t.due) ∙ c.loop.invariant.taken);
      left = sym t.left ∙ c.loop.invariant.left;
      size = omega (arith, c.loop.invariant.size, ap (λ (rs : List Registration). length rs) c.take_first-waker.ensures.entries.1);
      room = omega (arith, c.loop.invariant.room, c.push_reserved.ensures.len, c.push_reserved.ensures.capacity, ap (λ (ws : List Waker). length ws) t.due);
      capacity = c.push_reserved.ensures.capacity ∙ c.loop.invariant.capacity;
      spare = omega (arith, c.loop.invariant.spare, c.take_first-waker.ensures.spare);
    }
