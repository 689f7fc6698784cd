-- The node goes from one chain to another.
use Rattle.aio_timers.specs.Held.{held_at}
use Rattle.aio_timers.specs.Chains.{used_of}
use Rattle.aio_timers.proofs.LeastLemmas.{OfNode, of-node}
use Rattle.aio_timers.proofs.RenewLemmas.{renewed}
use Rattle.aio_timers.proofs.SoundLemmas.{used-yes}
use Rattle.aio_timers.proofs.steps.renew.Goals as goal

pub returns : goal.returns
returns c = λ root free used r s is up absent none.
    let own : OfNode (held_at c.args.nodes.now c.args.at) r = of-node (held_at c.args.nodes.now c.args.at) r is in
    renewed c.args.nodes.now c.leave.new.nodes c.rename.new.self c.join.new.nodes c.args.buckets.now c.leave.new.buckets c.join.new.buckets root free c.args.at used c.args.id.0 c.args.waker r s is c.requires.within
    c.leave.ensures.nodes c.leave.ensures.buckets
    (λ left w. c.leave.ensures.table (λ j. used_of (held_at c.args.nodes.now j)) left s.table (used-yes (held_at c.args.nodes.now c.args.at) own.used) w)
    c.rename.ensures c.join.ensures.nodes c.join.ensures.buckets c.join.ensures.table up absent none
