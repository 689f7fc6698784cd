-- The node at the place is that of the ticket, and the count rises where it had no waker.
use Rattle.std.proofs.Common.{◌+◌, arith, ap, sym, subst, ◌∙◌}
use Rattle.aio_listen.specs.Listening.{Listening, Holds}
use Rattle.aio_listen.specs.Order.{entries_along}
use Rattle.aio_listen.proofs.EntryLemmas.{listed}
use Rattle.aio_listen.proofs.ListedLemmas.{rewoken, held-present, waiting-small, waker-none, waker-some}
use Rattle.aio_listen.proofs.listeners.Listeners.set.Goals as goal

pub store-requires : goal.store-requires
store-requires g c =
    let held : Holds (entries_along c.self.inside.nodes c.self.inside.first) c.args.ticket = subst (λ (v : Listening g.row.W.Denot). Holds v.entries c.args.ticket) (sym c.self.view_is) c.requires in
    held-present c.self.inside.nodes c.self.inside.first c.self.inside.last c.self.inside.drawn c.self.inside.waiting c.args.ticket c.self.invariant held

pub overflow_add-self : goal.overflow_add-self
overflow_add-self g c = omega (arith, waiting-small _ _ _ _ _ c.self.invariant)

pub invariant_of-self : goal.invariant_of-self
invariant_of-self g c =
    let held : Holds (entries_along c.self.inside.nodes c.self.inside.first) c.args.ticket = subst (λ (v : Listening g.row.W.Denot). Holds v.entries c.args.ticket) (sym c.self.view_is) c.requires in
    let r = rewoken c.self.inside.nodes c.store.new.nodes c.self.inside.first c.self.inside.last c.self.inside.drawn c.self.inside.waiting c.args.ticket c.args.waker c.self.invariant held c.store.ensures.nodes in
    r.listed (c.self.inside.waiting + 1) (omega (arith, waker-none _ (sym c.store.ensures.first ∙ c.if-store.true)))

pub invariant_of-self-else-store : goal.invariant_of-self-else-store
invariant_of-self-else-store g c =
    let held : Holds (entries_along c.self.inside.nodes c.self.inside.first) c.args.ticket = subst (λ (v : Listening g.row.W.Denot). Holds v.entries c.args.ticket) (sym c.self.view_is) c.requires in
    let r = rewoken c.self.inside.nodes c.store.new.nodes c.self.inside.first c.self.inside.last c.self.inside.drawn c.self.inside.waiting c.args.ticket c.args.waker c.self.invariant held c.store.ensures.nodes in
    r.listed c.self.inside.waiting (omega (arith, waker-some _ (sym c.store.ensures.first ∙ c.if-store.false)))

pub returns-then-store : goal.returns-then-store
returns-then-store g c =
    let held : Holds (entries_along c.self.inside.nodes c.self.inside.first) c.args.ticket = subst (λ (v : Listening g.row.W.Denot). Holds v.entries c.args.ticket) (sym c.self.view_is) c.requires in
    let r = rewoken c.self.inside.nodes c.store.new.nodes c.self.inside.first c.self.inside.last c.self.inside.drawn c.self.inside.waiting c.args.ticket c.args.waker c.self.invariant held c.store.ensures.nodes in
    rw (← c.self.view_is) (ap (λ es. listed es c.self.inside.drawn) r.entries)

pub returns-else-store : goal.returns-else-store
returns-else-store g c =
    let held : Holds (entries_along c.self.inside.nodes c.self.inside.first) c.args.ticket = subst (λ (v : Listening g.row.W.Denot). Holds v.entries c.args.ticket) (sym c.self.view_is) c.requires in
    let r = rewoken c.self.inside.nodes c.store.new.nodes c.self.inside.first c.self.inside.last c.self.inside.drawn c.self.inside.waiting c.args.ticket c.args.waker c.self.invariant held c.store.ensures.nodes in
    rw (← c.self.view_is) (ap (λ es. listed es c.self.inside.drawn) r.entries)
