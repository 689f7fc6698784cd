use Rattle.std.proofs.Common.{◌≡◌, ◌+◌, ◌∷◌, [], ◌++◌, length, refl, sym, ap, ◌∙◌, subst, arith, length-append}
use Rattle.std.specs.List.{AllByRecursion}
use Rattle.std.specs.Arc.{arc_value}
use Rattle.aio_shared.specs.Members.{MemberValue, with_one_more_made}
use Rattle.aio_park.specs.Posts.{HaveParkers, IsPostOf, PostValue, member_terms, with_made}
use Rattle.aio_park.proofs.Fellows.{made_belongs, number_stays, one_more_made, one_more_of_all, one_more_parker, post_of_first, splits_rise, where_done}
use Rattle.aio_park.proofs.posts.posts_of.Goals as goal

pub loop-parker-init : goal.loop-parker-init
loop-parker-init g c = record {
  count = ap length c.new-posts.ensures.items;
  parkers = subst (HaveParkers (λ (p : PostValue g.row.N.Denot g.row.C.Denot). p.parker) 0) (sym c.new-posts.ensures.items) tt;
  posts = subst (AllByRecursion (IsPostOf g.C.Clock.bounds g.N.Faults.is_sure (arc_value c.args.shared.now)
      (member_terms g.C.Clock.bounds g.N.Faults.is_sure c.args.first.now c.args.clock.now))) (sym c.new-posts.ensures.items) tt;
  made = refl;
}

pub loop-parker-preserved : goal.loop-parker-preserved
loop-parker-preserved g c =
    let kept = c.loop-parker.invariant in
    let posts = c.loop-parker.posts.items in
    let post = c.in_ok-post.post in
    let shared = arc_value c.args.shared.now in
    let first = c.args.first.now in
    let clock = c.args.clock.now in
    let bounds = g.C.Clock.bounds in
    let sure = g.N.Faults.is_sure in
    let parker_of = λ (p : PostValue g.row.N.Denot g.row.C.Denot). p.parker in
    let pushed : c.push_back.new.self.items ≡ posts ++ post ∷ [] =
    where_done c.push_back.result (posts ++ post ∷ []) posts c.push_back.new.self.items c.push_back.ensures.items (sym c.is_err.ensures.value ∙ c.if-is_err.false) in
    record {
      count = omega (arith, ap length pushed, length-append posts (post ∷ []), kept.count);
      parkers = subst (HaveParkers parker_of 0) (sym pushed)
          (one_more_parker parker_of 0 posts post kept.parkers (c.in_ok-post.ensures.parker ∙ omega (arith, kept.count)));
      posts = subst (AllByRecursion (IsPostOf bounds sure shared (member_terms bounds sure first clock))) (sym pushed)
          (one_more_of_all (IsPostOf bounds sure shared (member_terms bounds sure first clock)) posts post kept.posts
          (post_of_first bounds sure shared c.loop-parker.parker first clock post
          (subst (λ (m : MemberValue g.row.N.Denot). IsPostOf bounds sure shared (member_terms bounds sure m clock) post) kept.made c.in_ok-post.ensures.post)));
      made = c.in_ok-post.ensures.made ∙ ap (λ (m : MemberValue g.row.N.Denot). with_one_more_made m) kept.made
          ∙ sym (one_more_made c.loop-parker.parker first);
    }

pub post_of-requires-clause-belongs : goal.post_of-requires-clause-belongs
post_of-requires-clause-belongs g c =
    made_belongs (arc_value c.args.shared.now) c.loop-parker.parker c.args.first.now c.loop-parker.first c.loop-parker.invariant.made c.requires.belongs

pub post_of-requires-clause-first : goal.post_of-requires-clause-first
post_of-requires-clause-first g c =
    ap (λ (m : MemberValue g.row.N.Denot). m.ops.number) c.loop-parker.invariant.made ∙ number_stays c.loop-parker.parker c.args.first.now ∙ c.requires.first

pub post_of-requires-clause-left : goal.post_of-requires-clause-left
post_of-requires-clause-left g c =
    let splits = ap (λ (m : MemberValue g.row.N.Denot). m.ops.splits) c.loop-parker.invariant.made ∙ splits_rise c.loop-parker.parker c.args.first.now in
    omega (arith, splits, c.requires.left, c.loop-parker-test.true)

pub post_of-requires-clause-parker : goal.post_of-requires-clause-parker
post_of-requires-clause-parker g c = omega (arith, c.loop-parker-test.true, c.requires.parkers)

pub returns-in_err-post-clause-belongs : goal.returns-in_err-post-clause-belongs
returns-in_err-post-clause-belongs g c = made_belongs (arc_value c.args.shared.now) c.loop-parker.parker c.args.first.now c.post_of.new.first
    (c.in_err-post.ensures.refused ∙ c.loop-parker.invariant.made) c.requires.belongs

pub returns-then-is_err-clause-some : goal.returns-then-is_err-clause-some
returns-then-is_err-clause-some g c = (
  c.loop-parker.parker + 1,
  omega (arith, c.loop-parker-test.true),
  c.in_ok-post.ensures.made ∙ ap (λ (m : MemberValue g.row.N.Denot). with_one_more_made m) c.loop-parker.invariant.made
      ∙ sym (one_more_made c.loop-parker.parker c.args.first.now),
)

pub returns-then-is_err-clause-belongs : goal.returns-then-is_err-clause-belongs
returns-then-is_err-clause-belongs g c =
    let made = c.in_ok-post.ensures.made ∙ ap (λ (m : MemberValue g.row.N.Denot). with_one_more_made m) c.loop-parker.invariant.made
    ∙ sym (one_more_made c.loop-parker.parker c.args.first.now) in
    made_belongs (arc_value c.args.shared.now) (c.loop-parker.parker + 1) c.args.first.now c.post_of.new.first made c.requires.belongs

pub returns-clause-belongs : goal.returns-clause-belongs
returns-clause-belongs g c =
    made_belongs (arc_value c.args.shared.now) c.loop-parker.parker c.args.first.now c.loop-parker.first c.loop-parker.invariant.made c.requires.belongs
