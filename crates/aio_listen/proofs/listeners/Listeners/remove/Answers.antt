-- The node at the place is that of the ticket, and leaves the order.
use Rattle.std.proofs.Common.{ap, sym, subst}
use Rattle.aio_listen.specs.Listening.{Listening, Holds}
use Rattle.aio_listen.specs.Order.{entries_along}
use Rattle.aio_listen.proofs.EntryLemmas.{listed}
use Rattle.aio_listen.proofs.UnlinkLemmas.{leaves}
use Rattle.aio_listen.proofs.listeners.Listeners.remove.Goals as goal

pub unlink-node-requires : goal.unlink-node-requires
unlink-node-requires g c =
    let i = c.self.inside in
    let held : Holds (entries_along c.self.inside.nodes c.self.inside.first) c.args.ticket = subst (λ (v : Listening g.row.W.Denot). Holds v.entries c.args.ticket) (sym c.self.view_is) c.requires in
    (leaves i.nodes i.first i.last i.drawn i.waiting c.args.ticket c.self.invariant held).linked

pub left_behind-self-inside-requires : goal.left_behind-self-inside-requires
left_behind-self-inside-requires g c =
    let i = c.self.inside in
    let held : Holds (entries_along c.self.inside.nodes c.self.inside.first) c.args.ticket = subst (λ (v : Listening g.row.W.Denot). Holds v.entries c.args.ticket) (sym c.self.view_is) c.requires in
    let l = (leaves i.nodes i.first i.last i.drawn i.waiting c.args.ticket c.self.invariant held).shrunk c.unlink-node.new.nodes c.unlink-node.ensures.nodes in
    rw c.unlink-node.ensures.node l.enough

pub invariant_of-self : goal.invariant_of-self
invariant_of-self g c =
    let i = c.self.inside in
    let held : Holds (entries_along c.self.inside.nodes c.self.inside.first) c.args.ticket = subst (λ (v : Listening g.row.W.Denot). Holds v.entries c.args.ticket) (sym c.self.view_is) c.requires in
    let l = (leaves i.nodes i.first i.last i.drawn i.waiting c.args.ticket c.self.invariant held).shrunk c.unlink-node.new.nodes c.unlink-node.ensures.nodes in
    rw (c.choose-self-inside.ensures, c.choose-self-inside-2.ensures, c.unlink-node.ensures.node) (l.listed c.left_behind-self-inside.result (rw (← c.unlink-node.ensures.node) c.left_behind-self-inside.ensures))

pub returns : goal.returns
returns g c =
    let i = c.self.inside in
    let held : Holds (entries_along c.self.inside.nodes c.self.inside.first) c.args.ticket = subst (λ (v : Listening g.row.W.Denot). Holds v.entries c.args.ticket) (sym c.self.view_is) c.requires in
    let l = (leaves i.nodes i.first i.last i.drawn i.waiting c.args.ticket c.self.invariant held).shrunk c.unlink-node.new.nodes c.unlink-node.ensures.nodes in
    rw (← c.self.view_is, c.choose-self-inside.ensures, c.unlink-node.ensures.node) (ap (λ es. listed es i.drawn) l.entries)
