use Rattle.std.proofs.Common.{rules, ap, sym, subst, ◌∙◌}
use Rattle.aio_rules.specs.SharedLock.{MayPutBack, is_inside}
use Rattle.aio_lock.proofs.Allowed.{may_fetch_slot, may_open}
use Rattle.aio_lock.proofs.gate.Gate.open.Goals as goal

pub load-requires : goal.load-requires
load-requires g c = (search rules, search rules, may_fetch_slot _ _ _ _ _ _ c.seat-seat.ensures.rests (ap (λ t. is_inside t.knows) c.token.view_is ∙ c.requires.may.inside))

pub store-requires : goal.store-requires
store-requires g c =
    let may = subst (λ v. MayPutBack v (g.T.Noted.first_note c.args.value) (g.T.Noted.second_note c.args.value)) (sym (ap (λ t. t.knows) c.token.view_is)) c.requires.may in
    (search rules, search rules, may_open _ _ _ _ _ _ c.seat-seat.ensures.rests c.args.value _ _ c.load.ensures.2 c.exchange.ensures.3 may)
