use Rattle.std.proofs.Common.{◌≡◌, subst, Result, Ok, take}
use Rattle.aio_base.specs.Connections.{WriteTells, did_count}
use Rattle.aio_base.specs.declared.connections.Did.{Did}
use Rattle.aio_base.specs.declared.connections.Did.TheVariants.{Blocked}
use Rattle.aio_base.specs.declared.outcomes.Failed.{Failed}
use Rattle.aio_conns.specs.Connections.{ConnValue, telling_of}
use Rattle.aio_conns.proofs.Telling.{writes-tell}
use Rattle.aio_conns.proofs.connections.SureConnConn.write.Goals as goal

pub returns-clause-told : goal.returns-clause-told
returns-clause-told c =
    let old : ConnValue = record { giving = c.self.inside.giving; sending = c.self.inside.sending; prompt = c.self.inside.prompt; armed = c.self.inside.armed } in
    subst (λ (before : ConnValue). WriteTells (telling_of before) (telling_of (record old { sending = c.write.new.self }))
    (take (did_count (Ok c.write.result)) c.args.piece.now) (◌≡◌ {A = Result Did Failed} (Ok c.write.result) (Ok Blocked)))
    c.self.view_is
    (writes-tell old c.args.piece.now c.write.result c.write.new.self c.self.invariant c.requires c.write.ensures.writes c.write.ensures.never)
