use Rattle.std.proofs.Common.{◌≡◌, length}
use Rattle.std.specs.List.{AllByRecursion}
use Rattle.std.specs.Arc.{arc_value}
use Rattle.aio_park.specs.Posts.{HaveParkers, IsPostOf, PostValue, member_terms, with_made}
use Rattle.aio_park.proofs.posts.posts_of.Given as goal

-- the posts so far have the first parkers, and the first member made as many
abbrev pub invariant-loop-parker : goal.invariant-loop-parker
invariant-loop-parker g l = record {
  count : length l.posts.items ≡ l.parker;
  parkers : HaveParkers (λ (p : PostValue g.row.N.Denot g.row.C.Denot). p.parker) 0 l.posts.items;
  posts : AllByRecursion (IsPostOf g.C.Clock.bounds g.N.Faults.is_sure (arc_value l.shared)
      (member_terms g.C.Clock.bounds g.N.Faults.is_sure l.initial.first l.clock)) l.posts.items;
  made : l.first ≡ with_made l.parker l.initial.first;
}
