use Rattle.std.proofs.Common.{◌≡◌, subst, List, Result, Ok, ℕ, take, length}
use Rattle.aio_base.specs.Connections.{ReadTells, did_count}
use Rattle.aio_base.specs.declared.connections.Did.{Did}
use Rattle.aio_base.specs.declared.connections.Did.TheVariants.{Blocked, Bytes}
use Rattle.aio_base.specs.declared.outcomes.Failed.{Failed}
use Rattle.aio_conns.specs.Connections.{ConnValue, telling_of}
use Rattle.aio_conns.proofs.Telling.{reads-tell, reads-keep}
use Rattle.aio_conns.proofs.connections.SureConnConn.read.Goals as goal

pub returns-clause-told : goal.returns-clause-told
returns-clause-told c =
    let old : ConnValue = record { giving = c.self.inside.giving; sending = c.self.inside.sending; prompt = c.self.inside.prompt; armed = c.self.inside.armed } in
    let bytes : List ℕ = take (did_count (Ok c.read.result)) c.read.new.buf in
    subst (λ (before : ConnValue). ReadTells (telling_of before) (telling_of (record old { giving = c.read.new.self })) bytes
    (◌≡◌ {A = Result Did Failed} (Ok c.read.result) (Ok Blocked)) (◌≡◌ {A = Result Did Failed} (Ok c.read.result) (Ok (Bytes 0))))
    c.self.view_is
    (reads-tell old (length c.args.buf.now) c.read.result bytes c.read.new.self c.self.invariant c.requires c.read.ensures.reads)

pub invariant_of-self : goal.invariant_of-self
invariant_of-self c =
    let old : ConnValue = record { giving = c.self.inside.giving; sending = c.self.inside.sending; prompt = c.self.inside.prompt; armed = c.self.inside.armed } in
    reads-keep old (length c.args.buf.now) c.read.result (take (did_count (Ok c.read.result)) c.read.new.buf) c.read.new.self c.self.invariant c.read.ensures.reads
