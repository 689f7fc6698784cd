-- A node at the place settles it by its serial, and where there is none no entry has the ticket.
use Rattle.std.proofs.Common.{sym}
use Rattle.aio_listen.proofs.ListedLemmas.{held-node, held-none}
use Rattle.aio_listen.proofs.listeners.Listeners.holds.Goals as goal

pub returns-in-Some : goal.returns-in-Some
returns-in-Some g c = rw (← c.self.view_is) (sym (held-node c.self.inside.nodes c.self.inside.first _ _ _ c.args.ticket c.in-Some.node.now c.self.invariant (sym c.in-Some.ensures)))

pub returns-in-None : goal.returns-in-None
returns-in-None g c = rw (← c.self.view_is) (sym (held-none c.self.inside.nodes c.self.inside.first _ _ _ c.args.ticket c.self.invariant (sym c.in-None.ensures)))
