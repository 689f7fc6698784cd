use Rattle.std.proofs.Common.{◌≡◌, [], ◌∷◌, ◌++◌, length, ap, arith}
use Rattle.std.proofs.lemmas.List.{nil_from_length}
use Rattle.aio_exec.specs.Workers.{WorkerValue}
use Rattle.aio_exec.proofs.Posted.{all_over, goes_over}
use Rattle.aio_exec.proofs.workers.at_posts.Goals as goal

pub loop-made-preserved : goal.loop-made-preserved
loop-made-preserved g c =
    let so_far = c.loop-made.invariant in
    let workers = c.loop-made.workers.items in
    let after = c.push_reserved.new.self.items in
    let worker = c.new.result in
    let more : after ≡ workers ++ worker ∷ [] = c.push_reserved.ensures.items in
    let posts_are = c.in-Some.ensures.items in
    let shifts_are = c.in-Some-pop_front.ensures.items in
    record {
      places = goes_over (λ (w : WorkerValue). w.places) _ workers after worker c.loop-made.shifts.items c.pop_front-in-loop-made.new.self.items c.in-Some-pop_front.shift _ so_far.places more shifts_are
          (ap (λ (w : WorkerValue). w.places) c.new.ensures);
      parkers = goes_over (λ (w : WorkerValue). w.parker) _ workers after worker c.loop-made.posts.items c.pop_front.new.self.items c.in-Some.post _ so_far.parkers more posts_are
          (ap (λ (w : WorkerValue). w.parker) c.new.ensures);
      terms = goes_over (λ (w : WorkerValue). w.terms) _ workers after worker c.loop-made.posts.items c.pop_front.new.self.items c.in-Some.post _ so_far.terms more posts_are
          (ap (λ (w : WorkerValue). w.terms) c.new.ensures);
      posts = omega (arith, so_far.posts, ap length posts_are);
      shifts = omega (arith, so_far.shifts, ap length shifts_are);
      made = omega (arith, so_far.made, c.push_reserved.ensures.len);
      room = omega (arith, so_far.room, c.push_reserved.ensures.capacity);
    }

pub returns-clause-places : goal.returns-clause-places
returns-clause-places g c =
    let so_far = c.loop-made.invariant in
    all_over (λ (w : WorkerValue). w.places) _ c.loop-made.workers.items c.loop-made.shifts.items _ so_far.places
    (nil_from_length c.loop-made.shifts.items (omega (arith, so_far.shifts, c.loop-made-test.false, c.loop-made.auto._made-end)))

pub returns-clause-parkers : goal.returns-clause-parkers
returns-clause-parkers g c =
    let so_far = c.loop-made.invariant in
    all_over (λ (w : WorkerValue). w.parker) _ c.loop-made.workers.items c.loop-made.posts.items _ so_far.parkers
    (nil_from_length c.loop-made.posts.items (omega (arith, so_far.posts, c.loop-made-test.false, c.loop-made.auto._made-end)))

pub returns-clause-terms : goal.returns-clause-terms
returns-clause-terms g c =
    let so_far = c.loop-made.invariant in
    all_over (λ (w : WorkerValue). w.terms) _ c.loop-made.workers.items c.loop-made.posts.items _ so_far.terms
    (nil_from_length c.loop-made.posts.items (omega (arith, so_far.posts, c.loop-made-test.false, c.loop-made.auto._made-end)))
