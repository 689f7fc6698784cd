use Rattle.std.proofs.Common.{◌∙◌, List, ℕ, sym, ap, subst}
use Rattle.std.proofs.lemmas.Result.{IfOk-weaker}
use Rattle.std.specs.List.{AllByRecursion}
use Rattle.aio_jobs.specs.Dealing.{GivesInTurn}
use Rattle.aio_shared.specs.Inside.{InsideValue}
use Rattle.aio_park.specs.Posts.{IsPostOf, member_terms}
use Rattle.aio_work.specs.Starting.{numbers}
use Rattle.aio_exec.proofs.Posted.{keeps_notifier, keeps_wait, parkers_of_posts, terms_of_posts}
use Rattle.aio_exec.proofs.workers.workers_of.Goals as goal

pub returns-clause-dealt : goal.returns-clause-dealt
returns-clause-dealt g c =
    IfOk-weaker c.at_posts.result _ _ (λ made same. subst (λ (rows : List (List ℕ)). GivesInTurn rows (numbers 0 c.args.tasks)) (sym same) c.in_ok-shifts.ensures.dealt) c.at_posts.ensures.places

pub returns-clause-parkers : goal.returns-clause-parkers
returns-clause-parkers g c =
    IfOk-weaker c.at_posts.result _ _
    (λ made same. parkers_of_posts g.C.Clock.bounds g.N.Faults.is_sure made.items c.in_ok-posts.posts.items same c.in_ok-posts.ensures.parkers) c.at_posts.ensures.parkers

pub returns-clause-under : goal.returns-clause-under
returns-clause-under g c =
    let bounds = g.C.Clock.bounds in
    let sure = g.N.Faults.is_sure in
    let host = c.args.caller.now.host in
    let clock = c.args.caller.now.clock in
    let posts = c.in_ok-posts.posts.items in
    let all = subst (λ (i : InsideValue g.row.N.Denot). AllByRecursion (IsPostOf bounds sure i.shared (member_terms bounds sure i.member clock)) posts) c.host.view_is
    c.in_ok-posts.ensures.posts in
    IfOk-weaker c.at_posts.result _ _
    (λ made same. terms_of_posts bounds sure host.shared (member_terms bounds sure host.member clock) made.items posts same all) c.at_posts.ensures.terms

pub returns-clause-wait : goal.returns-clause-wait
returns-clause-wait g c =
    let some = c.posts_of.ensures.some in
    keeps_wait some.0 c.host.inside.member c.posts_of.new.first some.2 ∙ ap (λ (i : InsideValue g.row.N.Denot). i.member.claim.sure_of_wait) c.host.view_is

pub returns-clause-notifier : goal.returns-clause-notifier
returns-clause-notifier g c =
    let some = c.posts_of.ensures.some in
    keeps_notifier some.0 c.host.inside.member c.posts_of.new.first some.2 ∙ ap (λ (i : InsideValue g.row.N.Denot). i.member.notifier) c.host.view_is

pub returns-in_err-posts-clause-wait : goal.returns-in_err-posts-clause-wait
returns-in_err-posts-clause-wait g c =
    let some = c.posts_of.ensures.some in
    keeps_wait some.0 c.host.inside.member c.posts_of.new.first some.2 ∙ ap (λ (i : InsideValue g.row.N.Denot). i.member.claim.sure_of_wait) c.host.view_is

pub returns-in_err-posts-clause-notifier : goal.returns-in_err-posts-clause-notifier
returns-in_err-posts-clause-notifier g c =
    let some = c.posts_of.ensures.some in
    keeps_notifier some.0 c.host.inside.member c.posts_of.new.first some.2 ∙ ap (λ (i : InsideValue g.row.N.Denot). i.member.notifier) c.host.view_is
