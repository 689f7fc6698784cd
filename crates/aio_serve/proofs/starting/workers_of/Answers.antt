use Rattle.std.proofs.Common.{◌≡◌, ◌≤◌, ◌++◌, [], ◌∷◌, List, length, map, refl, sym, ap, ◌∙◌, subst, arith, append-nil, length-append}
use Rattle.std.specs.List.{AllByRecursion}
use Rattle.std.specs.Arc.{arc_value}
use Rattle.std.proofs.lemmas.List.{nil_from_length}
use Rattle.aio_jobs.specs.Dealing.{GivesInTurn}
use Rattle.aio_places.specs.Places.{PlaceValue}
use Rattle.aio_park.specs.Posts.{HaveParkers, IsPostOf, PostValue, member_terms}
use Rattle.aio_serve.specs.Places.{AllServeUnder, ServesUnder, Terms, WorkerValue}
use Rattle.aio_jobs.proofs.Turns.{each_at_most}
use Rattle.aio_park.proofs.Fellows.{one_more_parker}
use Rattle.aio_serve.proofs.WorkerRows.{one_more_serves, row_goes_over}
use Rattle.aio_serve.proofs.starting.workers_of.Goals as goal

pub loop-made-init : goal.loop-made-init
loop-made-init g c =
    let workers = c.in-Ok.workers.items in
    let none : workers ≡ [] = c.in-Ok.ensures.items in
    let rows = c.in_ok-rows.rows in record {
      dealt = subst (λ (ws : List WorkerValue). GivesInTurn (map (λ (w : WorkerValue). w.places) ws ++ rows) c.args.begun.places.items) (sym none) c.in_ok-rows.ensures.dealt;
      rows = omega (arith, c.in_ok-rows.ensures.rows);
      few = each_at_most (length c.args.begun.places.items) c.args.count 0 64 rows c.requires.few c.in_ok-rows.ensures.shares;
      posts = omega (arith, c.in_ok-posts.ensures.count);
      next = c.in_ok-posts.ensures.parkers;
      each = c.in_ok-posts.ensures.posts;
      made = ap length none;
      parkers = subst (HaveParkers (λ (w : WorkerValue). w.parker) 0) (sym none) tt;
      under = subst (AllServeUnder _ c.args.begun.member.claim.sure_of_wait) (sym none) tt;
      room = omega (arith, c.in-Ok.ensures.capacity);
    }

pub loop-made-preserved : goal.loop-made-preserved
loop-made-preserved g c =
    let kept = c.loop-made.invariant in
    let sure_of_wait = c.args.begun.member.claim.sure_of_wait in
    let terms : Terms = record {
      bounds = g.C.Clock.bounds c.args.clock.now;
      idle = c.args.idle;
      is_sure = g.N.Faults.is_sure c.args.begun.member.notifier;
    } in
    let row = c.in-Some.row.items in
    let left = c.take_row.new.self in
    let worker = c.new.result in
    let workers = c.loop-made.workers.items in
    let more : c.push_reserved.new.self.items ≡ workers ++ worker ∷ [] = c.push_reserved.ensures.items in
    let rows_are : c.loop-made.rows ≡ row ∷ left = c.in-Some.ensures.row in
    let few : AllByRecursion (λ (r : List PlaceValue). length r ≤ 64) (row ∷ left) =
    subst (AllByRecursion (λ (r : List PlaceValue). length r ≤ 64)) rows_are kept.few in
    let posts_are = c.in-Some-pop_front.ensures.items in
    let next = subst (HaveParkers (λ (p : PostValue g.row.N.Denot g.row.C.Denot). p.parker) c.loop-made._made) posts_are kept.next in
    let each = subst (AllByRecursion (IsPostOf g.C.Clock.bounds g.N.Faults.is_sure (arc_value c.args.begun.shared)
    (member_terms g.C.Clock.bounds g.N.Faults.is_sure c.args.begun.member c.args.clock.now))) posts_are kept.each in
    let serves : ServesUnder terms sure_of_wait worker = subst (ServesUnder terms sure_of_wait) (sym c.new.ensures) (record {
      thread = record { bounds = each.0.under.bounds; notifier = each.0.under.notifier; wait = each.0.under.wait };
      idle = refl;
    }) in record {
      dealt = subst (λ (all : List (List PlaceValue)). GivesInTurn all c.args.begun.places.items)
          (row_goes_over workers c.push_reserved.new.self.items worker c.loop-made.rows left row more (ap (λ (w : WorkerValue). w.places) c.new.ensures) rows_are)
          kept.dealt;
      rows = omega (arith, kept.rows, ap length rows_are);
      few = few.1;
      posts = omega (arith, kept.posts, ap length posts_are);
      next = next.1;
      each = each.1;
      made = omega (arith, kept.made, ap length more, length-append workers (worker ∷ []));
      parkers = subst (HaveParkers (λ (w : WorkerValue). w.parker) 0) (sym more) (one_more_parker (λ (w : WorkerValue). w.parker) 0 workers worker kept.parkers
          (ap (λ (w : WorkerValue). w.parker) c.new.ensures ∙ next.0 ∙ omega (arith, kept.made)));
      under = subst (AllServeUnder terms sure_of_wait) (sym more) (one_more_serves terms sure_of_wait workers worker kept.under serves);
      room = omega (arith, kept.room, c.push_reserved.ensures.capacity);
    }

pub new-requires-clause-small : goal.new-requires-clause-small
new-requires-clause-small g c =
    let next = subst (HaveParkers (λ (p : PostValue g.row.N.Denot g.row.C.Denot). p.parker) c.loop-made._made) c.in-Some-pop_front.ensures.items
    c.loop-made.invariant.next in
    omega (arith, next.0, c.loop-made-test.true, c.requires.count.1)

pub new-requires-clause-few : goal.new-requires-clause-few
new-requires-clause-few g c =
    let few = subst (AllByRecursion (λ (r : List PlaceValue). length r ≤ 64)) c.in-Some.ensures.row c.loop-made.invariant.few in
    omega (arith, c.in-Some.row.ok.0, few.0)

pub push_reserved-requires : goal.push_reserved-requires
push_reserved-requires g c =
    omega (arith, c.loop-made.workers.ok.0, c.loop-made.invariant.made, c.loop-made.invariant.room, c.loop-made-test.true)

pub returns-clause-dealt : goal.returns-clause-dealt
returns-clause-dealt g c =
    let kept = c.loop-made.invariant in
    let none : c.loop-made.rows ≡ [] = nil_from_length c.loop-made.rows (omega (arith, kept.rows, c.loop-made.auto._made-end)) in
    let places = map (λ (w : WorkerValue). w.places) c.loop-made.workers.items in
    subst (λ (all : List (List PlaceValue)). GivesInTurn all c.args.begun.places.items)
    (ap (λ (left : List (List PlaceValue)). places ++ left) none ∙ append-nil places) kept.dealt
