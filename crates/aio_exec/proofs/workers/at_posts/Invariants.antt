use Rattle.std.proofs.Common.{◌≡◌, ◌+◌, ◌++◌, ◌≤◌, length, map, vec_len, vec_capacity}
use Rattle.aio_park.specs.Posts.{post_terms}
use Rattle.aio_work.specs.Starting.{places_of}
use Rattle.aio_exec.specs.Workers.{WorkerValue}
use Rattle.aio_exec.proofs.workers.at_posts.Given as goal

-- the workers so far have the first posts and the first work
abbrev pub invariant-loop-made : goal.invariant-loop-made
invariant-loop-made g l = record {
  places : map (λ (w : WorkerValue). w.places) l.workers.items ++ map (λ s. places_of s.workload.own) l.shifts.items ≡ map (λ s. places_of s.workload.own) l.fn.shifts.items;
  parkers : map (λ (w : WorkerValue). w.parker) l.workers.items ++ map (λ p. p.parker) l.posts.items ≡ map (λ p. p.parker) l.fn.posts.items;
  terms : map (λ (w : WorkerValue). w.terms) l.workers.items ++ map (post_terms g.C.Clock.bounds g.N.Faults.is_sure) l.posts.items
      ≡ map (post_terms g.C.Clock.bounds g.N.Faults.is_sure) l.fn.posts.items;
  posts : length l.posts.items + l._made ≡ l.count;
  shifts : length l.shifts.items + l._made ≡ l.count;
  made : vec_len l.workers ≡ l._made;
  room : l.count ≤ vec_capacity l.workers;
}
