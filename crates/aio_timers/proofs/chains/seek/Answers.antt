-- The chain is passed node by node.
use Rattle.std.proofs.Common.{◌≡◌, false, length, sym, ◌∙◌}
use Rattle.aio_timers.specs.Held.{held_at, is_pair_of}
use Rattle.aio_timers.proofs.SeekLemmas.{searches, searched, Visits, visits}
use Rattle.aio_timers.proofs.chains.seek.Goals as goal

pub loop-at-init : goal.loop-at-init
loop-at-init c = λ ks h. searches (held_at c.args.nodes.now) (length c.args.nodes.now) (λ j. is_pair_of c.args.deadline c.args.id.0 (held_at c.args.nodes.now j) ≡ false) ks c.args.head h.chain

pub is_pair_at-requires : goal.is_pair_at-requires
is_pair_at-requires c =
    let v : Visits (held_at c.args.nodes.now) (length c.args.nodes.now) (λ j. is_pair_of c.args.deadline c.args.id.0 (held_at c.args.nodes.now j) ≡ false) c.requires.0 c.in-Some.at =
    visits (held_at c.args.nodes.now) (length c.args.nodes.now) (λ j. is_pair_of c.args.deadline c.args.id.0 (held_at c.args.nodes.now j) ≡ false) c.requires.0 c.loop-at.link c.in-Some.at c.requires.1.once (sym c.in-Some.ensures) (c.loop-at.invariant c.requires.0 c.requires.1) in
    v.below

pub returns-then-is_pair_at : goal.returns-then-is_pair_at
returns-then-is_pair_at c = λ ks h.
    let v : Visits (held_at c.args.nodes.now) (length c.args.nodes.now) (λ j. is_pair_of c.args.deadline c.args.id.0 (held_at c.args.nodes.now j) ≡ false) ks c.in-Some.at =
    visits (held_at c.args.nodes.now) (length c.args.nodes.now) (λ j. is_pair_of c.args.deadline c.args.id.0 (held_at c.args.nodes.now j) ≡ false) ks c.loop-at.link c.in-Some.at h.once (sym c.in-Some.ensures) (c.loop-at.invariant ks h) in
    (v.inside, sym c.is_pair_at.ensures ∙ c.if-is_pair_at.true)

pub chain_of-link-requires : goal.chain_of-link-requires
chain_of-link-requires c =
    let v : Visits (held_at c.args.nodes.now) (length c.args.nodes.now) (λ j. is_pair_of c.args.deadline c.args.id.0 (held_at c.args.nodes.now j) ≡ false) c.requires.0 c.in-Some.at =
    visits (held_at c.args.nodes.now) (length c.args.nodes.now) (λ j. is_pair_of c.args.deadline c.args.id.0 (held_at c.args.nodes.now j) ≡ false) c.requires.0 c.loop-at.link c.in-Some.at c.requires.1.once (sym c.in-Some.ensures) (c.loop-at.invariant c.requires.0 c.requires.1) in
    v.below

pub loop-at-smaller : goal.loop-at-smaller
loop-at-smaller c =
    let v : Visits (held_at c.args.nodes.now) (length c.args.nodes.now) (λ j. is_pair_of c.args.deadline c.args.id.0 (held_at c.args.nodes.now j) ≡ false) c.requires.0 c.in-Some.at =
    visits (held_at c.args.nodes.now) (length c.args.nodes.now) (λ j. is_pair_of c.args.deadline c.args.id.0 (held_at c.args.nodes.now j) ≡ false) c.requires.0 c.loop-at.link c.in-Some.at c.requires.1.once (sym c.in-Some.ensures) (c.loop-at.invariant c.requires.0 c.requires.1) in
    rw (c.chain_of-link.ensures, ← c.in-Some.ensures) v.nearer

pub loop-at-preserved : goal.loop-at-preserved
loop-at-preserved c = λ ks h.
    let v : Visits (held_at c.args.nodes.now) (length c.args.nodes.now) (λ j. is_pair_of c.args.deadline c.args.id.0 (held_at c.args.nodes.now j) ≡ false) ks c.in-Some.at =
    visits (held_at c.args.nodes.now) (length c.args.nodes.now) (λ j. is_pair_of c.args.deadline c.args.id.0 (held_at c.args.nodes.now j) ≡ false) ks c.loop-at.link c.in-Some.at h.once (sym c.in-Some.ensures) (c.loop-at.invariant ks h) in
    rw c.chain_of-link.ensures (v.onward (sym c.is_pair_at.ensures ∙ c.if-is_pair_at.false))

pub returns : goal.returns
returns c = λ ks h.
    searched (held_at c.args.nodes.now) (length c.args.nodes.now) (λ j. is_pair_of c.args.deadline c.args.id.0 (held_at c.args.nodes.now j) ≡ false) ks c.loop-at.link (sym c.get.ensures ∙ c.in_default.is) (c.loop-at.invariant ks h)
