-- Each round goes one node on, and the chain does not end before the node.
use Rattle.std.proofs.Common.{◌≢◌, ℕ, ◌∷◌, ◌++◌, Some, length, refl, sym, ap, ◌∙◌}
use Rattle.aio_timers.specs.Held.{held_at}
use Rattle.aio_timers.specs.Chains.{IsSearched}
use Rattle.aio_timers.proofs.SeekLemmas.{searches, Visits, visits, just-before, not-ended}
use Rattle.aio_timers.proofs.chains.before.Goals as goal

pub loop-next-init : goal.loop-next-init
loop-next-init c = record {
  within = c.requires.within;
  other = c.requires.other;
  search = λ front back h. searches (held_at c.args.nodes.now) (length c.args.nodes.now) (λ j. j ≢ c.args.at) (front ++ c.args.at ∷ back) (Some c.args.first) h.chain;
}

pub returns-then-next-at : goal.returns-then-next-at
returns-then-next-at c = λ front back h.
    just-before (held_at c.args.nodes.now) (length c.args.nodes.now) c.args.at front back (Some c.args.first) c.loop-next.here h c.loop-next.invariant.other
    (sym c.chain_of.ensures ∙ sym c.in-Some.ensures ∙ ap (λ (x : ℕ). Some x) c.if-next-at.true) (c.loop-next.invariant.search front back h)

pub loop-next-smaller : goal.loop-next-smaller
loop-next-smaller c =
    let v : Visits (held_at c.args.nodes.now) (length c.args.nodes.now) (λ j. j ≢ c.args.at) (c.requires.among.0 ++ c.args.at ∷ c.requires.among.1) c.loop-next.here =
    visits (held_at c.args.nodes.now) (length c.args.nodes.now) (λ j. j ≢ c.args.at) (c.requires.among.0 ++ c.args.at ∷ c.requires.among.1) (Some c.loop-next.here) c.loop-next.here c.requires.among.2.once refl (c.loop-next.invariant.search c.requires.among.0 c.requires.among.1 c.requires.among.2) in
    rw (sym c.chain_of.ensures ∙ sym c.in-Some.ensures) at v.nearer

pub loop-next-preserved : goal.loop-next-preserved
loop-next-preserved c = record {
  within =
      let v : Visits (held_at c.args.nodes.now) (length c.args.nodes.now) (λ j. j ≢ c.args.at) (c.requires.among.0 ++ c.args.at ∷ c.requires.among.1) c.loop-next.here =
      visits (held_at c.args.nodes.now) (length c.args.nodes.now) (λ j. j ≢ c.args.at) (c.requires.among.0 ++ c.args.at ∷ c.requires.among.1) (Some c.loop-next.here) c.loop-next.here c.requires.among.2.once refl (c.loop-next.invariant.search c.requires.among.0 c.requires.among.1 c.requires.among.2) in
      let on : IsSearched (held_at c.args.nodes.now) (length c.args.nodes.now) (λ j. j ≢ c.args.at) (c.requires.among.0 ++ c.args.at ∷ c.requires.among.1) (Some c.in-Some.next) = rw (sym c.chain_of.ensures ∙ sym c.in-Some.ensures) at (v.onward c.loop-next.invariant.other) in
      let w : Visits (held_at c.args.nodes.now) (length c.args.nodes.now) (λ j. j ≢ c.args.at) (c.requires.among.0 ++ c.args.at ∷ c.requires.among.1) c.in-Some.next =
      visits (held_at c.args.nodes.now) (length c.args.nodes.now) (λ j. j ≢ c.args.at) (c.requires.among.0 ++ c.args.at ∷ c.requires.among.1) (Some c.in-Some.next) c.in-Some.next c.requires.among.2.once refl on in
      w.below;
  other = c.if-next-at.false;
  search = λ front back h.
      let v : Visits (held_at c.args.nodes.now) (length c.args.nodes.now) (λ j. j ≢ c.args.at) (front ++ c.args.at ∷ back) c.loop-next.here =
      visits (held_at c.args.nodes.now) (length c.args.nodes.now) (λ j. j ≢ c.args.at) (front ++ c.args.at ∷ back) (Some c.loop-next.here) c.loop-next.here h.once refl (c.loop-next.invariant.search front back h) in
      rw (sym c.chain_of.ensures ∙ sym c.in-Some.ensures) at (v.onward c.loop-next.invariant.other);
}

pub unreachable-requires : goal.unreachable-requires
unreachable-requires c =
    not-ended (held_at c.args.nodes.now) (length c.args.nodes.now) c.args.at c.requires.among.0 c.requires.among.1 (Some c.args.first) c.loop-next.here c.requires.among.2 c.loop-next.invariant.other
    (sym c.chain_of.ensures ∙ sym c.get.ensures ∙ c.in_default.is) (c.loop-next.invariant.search c.requires.among.0 c.requires.among.1 c.requires.among.2)
