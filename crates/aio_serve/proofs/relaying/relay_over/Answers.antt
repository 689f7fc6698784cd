use Rattle.std.proofs.Common.{rules, inr, arith}
use Rattle.std.proofs.lemmas.Grind.{common_steps}
use Rattle.aio_serve.specs.Relays.{MayEndSo, terms_of}
use Rattle.aio_serve.proofs.Refused.{first_alone, first_and_more, may_end_still, pairs_refused}
use Rattle.aio_serve.proofs.relaying.relay_over.Goals as goal

pub returns-clause-written : goal.returns-clause-written
returns-clause-written g c =
    let may = may_end_still g.P.C.Tells.telling g.P.C.Faults.is_sure
    (terms_of (g.C.Clock.bounds c.args.six.now.clock) c.args.order.idle (g.N.Faults.is_sure c.args.six.now.notify))
    (g.P.Port.waiting c.args.six.now.port) (g.P.Port.waiting c.bind.new.device) c.args.order.pairs
    c.in-Ok-serve_six.ends.items c.as_slice.result.now
    c.bind.ensures.waiting c.as_slice.ensures.value c.in-Ok-serve_six.ensures.ends in
    pairs_refused g.K.Sink.contents (g.P.Port.own_port c.args.six.now.port) c.args.order.port
    (MayEndSo g.P.C.Tells.telling g.P.C.Faults.is_sure
    (terms_of (g.C.Clock.bounds c.args.six.now.clock) c.args.order.idle (g.N.Faults.is_sure c.args.six.now.notify))
    (g.P.Port.waiting c.args.six.now.port) c.args.order.pairs)
    c.in-Ok.port c.in-Ok.ensures.port
    c.args.out.now c.write_listening.new.out c.in-Ok-write_listening.ensures.written
    c.write_pairs.result c.in-Err-write_pairs.refusal
    (record { before = c.faults-before.result; after = c.faults-in-Err-write_pairs.result })
    c.stop_of-in-Err-write_pairs.result c.write_pairs.new.out c.as_slice.result.now
    c.in-Err-write_pairs.is c.stop_of-in-Err-write_pairs.ensures may c.write_pairs.ensures.written

pub returns-in-Err-serve_six-clause-order : goal.returns-in-Err-serve_six-clause-order
returns-in-Err-serve_six-clause-order g c = inr (c.in-Ok.port, c.in-Ok.ensures.port, first_alone _ _ _ c.in-Ok-write_listening.ensures.written)

pub returns-in-Ok-write_pairs-clause-order : goal.returns-in-Ok-write_pairs-clause-order
returns-in-Ok-write_pairs-clause-order g c = inr (
  c.in-Ok.port,
  c.in-Ok.ensures.port,
  first_and_more c.write_pairs.result _ _ _ _ _ c.in-Ok-write_listening.ensures.written c.write_pairs.ensures.written,
)

pub returns-clause-order : goal.returns-clause-order
returns-clause-order g c = inr (
  c.in-Ok.port,
  c.in-Ok.ensures.port,
  first_and_more c.write_pairs.result _ _ _ _ _ c.in-Ok-write_listening.ensures.written c.write_pairs.ensures.written,
)

pub returns-in-Err-write_listening-clause-written : goal.returns-in-Err-write_listening-clause-written
returns-in-Err-write_listening-clause-written g c = search rules

pub returns-in-Err-serve_six-clause-written : goal.returns-in-Err-serve_six-clause-written
returns-in-Err-serve_six-clause-written g c = search rules

pub returns-in-Ok-write_pairs-clause-written : goal.returns-in-Ok-write_pairs-clause-written
returns-in-Ok-write_pairs-clause-written g c = grind (arith, common_steps)

pub returns-in-Err-write_listening-clause-order : goal.returns-in-Err-write_listening-clause-order
returns-in-Err-write_listening-clause-order g c = search rules

pub returns-in-Err-serve_six-clause-cause : goal.returns-in-Err-serve_six-clause-cause
returns-in-Err-serve_six-clause-cause g c = search rules
