-- The node joins the order behind the last one, and its serial is above all others.
use Rattle.std.proofs.Common.{◌+◌, arith, ap}
use Rattle.slab.specs.Slab.{ContainsKey}
use Rattle.aio_listen.proofs.EntryLemmas.{listed, has_ticket-above}
use Rattle.aio_listen.proofs.AppendLemmas.{IfSome-each, last-present, grown}
use Rattle.aio_listen.proofs.ListedLemmas.{listed-rises, listed-room, along-room}
use Rattle.aio_listen.proofs.listeners.Listeners.add.Goals as goal

pub append-requires : goal.append-requires
append-requires g c =
    let i = c.self.inside in
    IfSome-each i.last (ContainsKey i.nodes) (last-present i.nodes i.first i.last c.self.invariant.keys c.self.invariant.order)

pub invariant_of-self : goal.invariant_of-self
invariant_of-self g c =
    let i = c.self.inside in
    rw (c.in-None.ensures.refused) (listed-room i.nodes c.append.new.nodes.capacity i.first i.last i.drawn i.waiting c.self.invariant)

pub invariant_of-self-in-Some : goal.invariant_of-self-in-Some
invariant_of-self-in-Some g c =
    let i = c.self.inside in
    let n = grown i.nodes c.append.new.nodes i.first i.last i.drawn i.waiting c.in-Some.key c.self.invariant c.in-Some.ensures.added (omega arith) c.in-Some.ensures.fits in
    rw (c.choose-self-inside.ensures, c.to-link.ensures) n.listed

pub returns-in-None-clause-refused : goal.returns-in-None-clause-refused
returns-in-None-clause-refused g c =
    let i = c.self.inside in
    rw (← c.self.view_is, c.in-None.ensures.refused) (ap (λ es. listed es i.drawn) (along-room i.nodes c.append.new.nodes.capacity i.first i.last i.drawn i.waiting c.self.invariant))

pub returns-in-Some-clause-added : goal.returns-in-Some-clause-added
returns-in-Some-clause-added g c =
    let i = c.self.inside in
    let n = grown i.nodes c.append.new.nodes i.first i.last i.drawn i.waiting c.in-Some.key c.self.invariant c.in-Some.ensures.added (omega arith) c.in-Some.ensures.fits in
    rw (← c.self.view_is, c.choose-self-inside.ensures, c.to-link.ensures) (ap (λ es. listed es (i.drawn + 1)) n.entries)

pub returns-in-Some-clause-fresh : goal.returns-in-Some-clause-fresh
returns-in-Some-clause-fresh g c =
    let i = c.self.inside in
    rw (← c.self.view_is) (λ held. let absent = has_ticket-above 0 _ i.drawn (record { serial = i.drawn + 1; place = c.in-Some.key }) (listed-rises i.nodes i.first i.last i.drawn i.waiting c.self.invariant) (omega arith) in cc)
