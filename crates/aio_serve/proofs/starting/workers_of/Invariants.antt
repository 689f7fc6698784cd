use Rattle.std.proofs.Common.{◌≡◌, ◌+◌, ◌++◌, ◌≤◌, length, map}
use Rattle.std.specs.Prelude.{vec_capacity}
use Rattle.std.specs.List.{AllByRecursion}
use Rattle.std.specs.Arc.{arc_value}
use Rattle.aio_jobs.specs.Dealing.{GivesInTurn}
use Rattle.aio_park.specs.Posts.{HaveParkers, IsPostOf, PostValue, member_terms}
use Rattle.aio_serve.specs.Places.{AllServeUnder, WorkerValue}
use Rattle.aio_serve.proofs.starting.workers_of.Given as goal

-- The workers so far have the first rows and the first parkers, and for each that is to come there are a row and a post.
abbrev pub invariant-loop-made : goal.invariant-loop-made
invariant-loop-made g l = record {
  dealt : GivesInTurn (map (λ (w : WorkerValue). w.places) l.workers.items ++ l.rows) l.fn.begun.places.items;
  rows : length l.rows + l._made ≡ l.fn.count;
  few : AllByRecursion (λ row. length row ≤ 64) l.rows;
  posts : length l.posts.items + l._made ≡ l.fn.count;
  next : HaveParkers (λ (p : PostValue g.row.N.Denot g.row.C.Denot). p.parker) l._made l.posts.items;
  each : AllByRecursion (IsPostOf g.C.Clock.bounds g.N.Faults.is_sure (arc_value l.fn.begun.shared)
      (member_terms g.C.Clock.bounds g.N.Faults.is_sure l.fn.begun.member l.fn.clock)) l.posts.items;
  made : length l.workers.items ≡ l._made;
  parkers : HaveParkers (λ (w : WorkerValue). w.parker) 0 l.workers.items;
  under : AllServeUnder (record {
    bounds = g.C.Clock.bounds l.fn.clock;
    idle = l.fn.idle;
    is_sure = g.N.Faults.is_sure l.fn.begun.member.notifier;
  }) l.fn.begun.member.claim.sure_of_wait l.workers.items;
  room : l.fn.count ≤ vec_capacity l.workers;
}
