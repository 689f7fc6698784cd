-- What both passes do.
use Rattle.std.proofs.Common.{None, arith}
use Rattle.aio_timers.specs.Rows.{IsInside}
use Rattle.aio_timers.proofs.MeldLemmas.{Halves, halves, combine-top, merges-none, merges-some}
use Rattle.aio_timers.proofs.merge.merge.Goals as goal

pub combine-requires-clause-tops : goal.combine-requires-clause-tops
combine-requires-clause-tops c =
    let t = c.requires.tops in
    let h : Halves c.args.nodes.now c.pair-pairs.new.nodes t.0 t.1 c.pair-pairs.result = halves c.args.nodes.now c.pair-pairs.new.nodes t.0 c.args.first c.pair-pairs.result t.1 t.2 (c.pair-pairs.ensures t.0 t.1 t.2) in
    (h.melds.now, h.made, h.tops)

pub returns-in_err-top : goal.returns-in_err-top
returns-in_err-top c = λ f ks t.
    let h : Halves c.args.nodes.now c.pair-pairs.new.nodes f ks c.pair-pairs.result = halves c.args.nodes.now c.pair-pairs.new.nodes f c.args.first c.pair-pairs.result ks t (c.pair-pairs.ensures f ks t) in
    rw c.from_residual.ensures (merges-none c.args.nodes.now c.pair-pairs.new.nodes c.combine.new.nodes f ks c.pair-pairs.result h (c.in_err-top.ensures h.melds.now h.made h.tops))

pub set_alone-requires : goal.set_alone-requires
set_alone-requires c =
    let t = c.requires.tops in
    let h : Halves c.args.nodes.now c.pair-pairs.new.nodes t.0 t.1 c.pair-pairs.result = halves c.args.nodes.now c.pair-pairs.new.nodes t.0 c.args.first c.pair-pairs.result t.1 t.2 (c.pair-pairs.ensures t.0 t.1 t.2) in
    let top : IsInside c.combine.new.nodes c.in_ok-top.top =
    combine-top c.pair-pairs.new.nodes c.combine.new.nodes h.melds.now c.pair-pairs.result None h.made c.in_ok-top.top h.tops (c.in_ok-top.ensures h.melds.now h.made h.tops) in
    top.here

pub returns : goal.returns
returns c = λ f ks t.
    let h : Halves c.args.nodes.now c.pair-pairs.new.nodes f ks c.pair-pairs.result = halves c.args.nodes.now c.pair-pairs.new.nodes f c.args.first c.pair-pairs.result ks t (c.pair-pairs.ensures f ks t) in
    merges-some c.args.nodes.now c.pair-pairs.new.nodes c.combine.new.nodes c.set_alone.new.nodes f c.args.first ks c.pair-pairs.result c.in_ok-top.top t h (c.in_ok-top.ensures h.melds.now h.made h.tops) c.set_alone.ensures

pub combine-requires-clause-few : goal.combine-requires-clause-few
combine-requires-clause-few c =
    let t = c.requires.tops in
    let h : Halves c.args.nodes.now c.pair-pairs.new.nodes t.0 t.1 c.pair-pairs.result = halves c.args.nodes.now c.pair-pairs.new.nodes t.0 c.args.first c.pair-pairs.result t.1 t.2 (c.pair-pairs.ensures t.0 t.1 t.2) in
    omega (arith, c.requires.few, h.melds.kept.len)
