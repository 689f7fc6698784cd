use Rattle.std.proofs.Common.{List, sym, subst, le_refl, le_trans, arith, rules}
use Rattle.aio_serve.specs.Accepted.{HandedOut}
use Rattle.aio_serve.proofs.Handed.{none_handed, none_more, one_handed}
use Rattle.aio_serve.proofs.accepting.accept_all.Goals as goal

pub loop-accepted-init : goal.loop-accepted-init
loop-accepted-init g c = record {
  handed = subst (λ (conns : List g.row.P-C.Denot). HandedOut (g.P.Port.waiting c.args.port.now) conns (g.P.Port.waiting c.args.port.now)) (sym c.in-Ok.ensures.items) (none_handed (g.P.Port.waiting c.args.port.now));
  count = c.in-Ok.ensures.len;
  room = omega (arith, c.in-Ok.ensures.capacity);
  faults = le_refl _;
}

pub loop-accepted-preserved : goal.loop-accepted-preserved
loop-accepted-preserved g c = record {
  handed = subst (λ (conns : List g.row.P-C.Denot). HandedOut (g.P.Port.waiting c.args.port.now) conns (g.P.Port.waiting c.accept.new.self)) (sym c.push_reserved.ensures.items)
      (one_handed (g.P.Port.waiting c.args.port.now) (g.P.Port.waiting c.loop-accepted.port) (g.P.Port.waiting c.accept.new.self) c.loop-accepted.conns.items c.in-Ok-accept.conn
      c.loop-accepted.invariant.handed c.in-Ok-accept.ensures.next);
  count = omega (arith, c.push_reserved.ensures.len, c.loop-accepted.invariant.count);
  room = omega (arith, c.push_reserved.ensures.capacity, c.loop-accepted.invariant.room);
  faults = le_trans c.loop-accepted.invariant.faults c.accept.ensures.faults.cause.later;
}

pub returns-clause-first : goal.returns-clause-first
returns-clause-first g c = c.loop-accepted.invariant.handed

pub returns-in-Err-clause-handed : goal.returns-in-Err-clause-handed
returns-in-Err-clause-handed g c = (
  c.loop-accepted.conns.items,
  none_more (g.P.Port.waiting c.args.port.now) (g.P.Port.waiting c.loop-accepted.port) (g.P.Port.waiting c.accept.new.self) c.loop-accepted.conns.items _ c.loop-accepted.invariant.handed c.in-Err.ensures.next,
  omega (arith, c.loop-accepted.conns.ok, c.loop-accepted.invariant.count, c.loop-accepted.auto._accepted-end),
)

pub returns-in-Err-clause-cause : goal.returns-in-Err-clause-cause
returns-in-Err-clause-cause g c = search rules
