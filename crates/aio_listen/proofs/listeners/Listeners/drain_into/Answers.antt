-- The walk back parts the order; what is taken from there on are all wakers.
use Rattle.std.proofs.Common.{ℕ, List, length, arith, ap}
use Rattle.aio_listen.specs.Listening.{Listening, wakers_of}
use Rattle.aio_listen.specs.Order.{entries_at}
use Rattle.aio_listen.proofs.EntryLemmas.{listed}
use Rattle.aio_listen.proofs.DrainLemmas.{length-wakers_at}
use Rattle.aio_listen.proofs.ListedLemmas.{listed-counted}
use Rattle.aio_listen.proofs.WalkLemmas.{Seen-tail, drained}
use Rattle.aio_listen.proofs.listeners.Listeners.drain_into.Goals as goal

pub take_on-requires : goal.take_on-requires
take_on-requires g c =
    let i = c.self.inside in
    let h = c.self.invariant in
    let seen = c.drain_start-start.ensures h.keys h.order h.sound.counted in (
      seen.1.back,
      Seen-tail i.nodes i.first i.last h.keys seen.0 c.drain_start-start.result.0 0 c.drain_start-start.result.1 h.order seen.1,
      omega (
        arith,
        c.requires,
        ap (λ (v : Listening g.row.W.Denot). length (wakers_of v.entries)) c.self.view_is,
        listed-counted i.nodes i.first i.last i.drawn i.waiting h,
        h.sound.counted,
        ap (λ (ks : List ℕ). length (wakers_of (entries_at i.nodes ks))) seen.1.parts,
        length-wakers_at i.nodes seen.1.front seen.1.back,
        c.args.out.now.ok,
      ),
    )

pub invariant_of-self : goal.invariant_of-self
invariant_of-self g c =
    let i = c.self.inside in
    let h = c.self.invariant in
    let seen = c.drain_start-start.ensures h.keys h.order h.sound.counted in
    let tail = Seen-tail i.nodes i.first i.last h.keys seen.0 c.drain_start-start.result.0 0 c.drain_start-start.result.1 h.order seen.1 in
    (drained i.nodes c.take_on.new.nodes i.first i.last i.drawn i.waiting seen.0 c.drain_start-start.result.0 c.drain_start-start.result.1 c.args.out.now.items c.take_on.new.out.items h seen.1 (c.take_on.ensures.taken seen.1.back tail)).listed

pub returns-clause-drained : goal.returns-clause-drained
returns-clause-drained g c =
    let i = c.self.inside in
    let h = c.self.invariant in
    let seen = c.drain_start-start.ensures h.keys h.order h.sound.counted in
    let tail = Seen-tail i.nodes i.first i.last h.keys seen.0 c.drain_start-start.result.0 0 c.drain_start-start.result.1 h.order seen.1 in
    let d = drained i.nodes c.take_on.new.nodes i.first i.last i.drawn i.waiting seen.0 c.drain_start-start.result.0 c.drain_start-start.result.1 c.args.out.now.items c.take_on.new.out.items h seen.1 (c.take_on.ensures.taken seen.1.back tail) in
    rw (← c.self.view_is) (ap (λ es. listed es i.drawn) d.entries)

pub returns-clause-items : goal.returns-clause-items
returns-clause-items g c =
    let i = c.self.inside in
    let h = c.self.invariant in
    let seen = c.drain_start-start.ensures h.keys h.order h.sound.counted in
    let tail = Seen-tail i.nodes i.first i.last h.keys seen.0 c.drain_start-start.result.0 0 c.drain_start-start.result.1 h.order seen.1 in
    let d = drained i.nodes c.take_on.new.nodes i.first i.last i.drawn i.waiting seen.0 c.drain_start-start.result.0 c.drain_start-start.result.1 c.args.out.now.items c.take_on.new.out.items h seen.1 (c.take_on.ensures.taken seen.1.back tail) in
    rw (← c.self.view_is) d.pushed
