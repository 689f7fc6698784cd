-- Each step looks at one node more of the row.
use Rattle.std.proofs.Common.{sym, ◌∙◌}
use Rattle.aio_timers.proofs.DueLemmas.{sees-start, sees-end, SeesOn, sees-on}
use Rattle.aio_timers.proofs.due.last_due_of.Goals as goal
use Rattle.aio_timers.proofs.due.last_due_of.Goals.{then-is_due_at, else-is_due_at}

pub loop-at-init : goal.loop-at-init
loop-at-init c = λ ks r. rw c.none-last.ensures (sees-start c.args.nodes.now c.args.now ks c.args.first r)

pub is_due_at-requires : goal.is_due_at-requires
is_due_at-requires c =
    let s : SeesOn c.args.nodes.now c.args.now c.requires.0 c.in-Some.at c.loop-at.last =
    sees-on c.args.nodes.now c.args.now c.requires.0 c.args.first c.loop-at.link c.loop-at.last c.in-Some.at c.requires.1 (sym c.in-Some.ensures) (c.loop-at.invariant c.requires.0 c.requires.1) in
    s.within

pub next_of-link-requires : goal.next_of-link-requires
next_of-link-requires c =
    let s : SeesOn c.args.nodes.now c.args.now c.requires.0 c.in-Some.at c.loop-at.last =
    sees-on c.args.nodes.now c.args.now c.requires.0 c.args.first c.loop-at.link c.loop-at.last c.in-Some.at c.requires.1 (sym c.in-Some.ensures) (c.loop-at.invariant c.requires.0 c.requires.1) in
    s.within

pub loop-at-smaller : goal.loop-at-smaller
loop-at-smaller c =
    let s : SeesOn c.args.nodes.now c.args.now c.requires.0 c.in-Some.at c.loop-at.last =
    sees-on c.args.nodes.now c.args.now c.requires.0 c.args.first c.loop-at.link c.loop-at.last c.in-Some.at c.requires.1 (sym c.in-Some.ensures) (c.loop-at.invariant c.requires.0 c.requires.1) in
    rw (c.next_of-link.ensures, ← c.in-Some.ensures) s.shorter

pub loop-at-preserved : goal.loop-at-preserved
loop-at-preserved c = λ ks r.
    let s : SeesOn c.args.nodes.now c.args.now ks c.in-Some.at c.loop-at.last =
    sees-on c.args.nodes.now c.args.now ks c.args.first c.loop-at.link c.loop-at.last c.in-Some.at r (sym c.in-Some.ensures) (c.loop-at.invariant ks r) in
    rw c.next_of-link.ensures (elim c.if-is_due_at.branch [
      | then-is_due_at w ↦ rw (w.last-is, ← c.in-Some.ensures) (s.due (sym c.is_due_at.ensures ∙ w.if-is_due_at.true))
      | else-is_due_at w ↦ rw w.last-is (s.other (sym c.is_due_at.ensures ∙ w.if-is_due_at.false))
    ])

pub returns : goal.returns
returns c = λ ks r. sees-end c.args.nodes.now c.args.now ks c.loop-at.link c.loop-at.last (sym c.get.ensures ∙ c.in_default.is) (c.loop-at.invariant ks r)
