use Rattle.std.proofs.Common.{rules}
use Rattle.aio_source.proofs.AskLemmas.{nobody, none_left}
use Rattle.aio_source.proofs.source.SourceState.handle.Goals as goal

pub returns-clause-taken : goal.returns-clause-taken
returns-clause-taken g c = search rules

pub invariant_of-self : goal.invariant_of-self
invariant_of-self g c = search rules

pub returns-clause-after : goal.returns-clause-after
returns-clause-after g c = search rules

pub returns-clause-lent : goal.returns-clause-lent
returns-clause-lent g c = search rules

pub has_waiter_where-left-requires : goal.has_waiter_where-left-requires
has_waiter_where-left-requires g c =
    let i = c.self.inside in
    λ none. none_left i.directions _ i.arming.asked i.arming.broken c.args.e.on c.args.round c.may_wait-may.result c.self.invariant.1 c.may_wait-may.ensures c.take_waiters.ensures.after none

pub take_waiters-requires-clause-nobody : goal.take_waiters-requires-clause-nobody
take_waiters-requires-clause-nobody g c =
    let i = c.self.inside in
    nobody i.directions i.arming.asked i.arming.broken c.may_wait-may.result c.self.invariant.1 c.may_wait-may.ensures
