use Rattle.std.proofs.Common.{◌≡◌, ◌*◌, List, Result, Vec, length, refl, sym, subst, arith, rules}
use Rattle.std.specs.Prelude.{IfErr, IfOk, IfSome, OnOk}
use Rattle.std.specs.List.{AllZip}
use Rattle.std.specs.declared.alloc.Global.{Global}
use Rattle.aio_pairs.specs.declared.outcomes.PairEnd.{PairEnd}
use Rattle.aio_serve.specs.Accepted.{HandedOut}
use Rattle.aio_park.specs.Stopping.{StopsFor}
use Rattle.aio_serve.specs.Places.{AllServeUnder, EndsFit, PlaceFits, Terms}
use Rattle.aio_serve.specs.Servers.{HasServeCause}
use Rattle.aio_serve.specs.declared.server.ServeFault.{ServeFault}
use Rattle.aio_serve.proofs.Fitting.{as_many, told_fit}
use Rattle.aio_serve.proofs.Stopping.{all_serve_lent, any_cause, one_stops_for, worker_cause}
use Rattle.aio_serve.proofs.server.serve.Goals as goal
use Rattle.aio_serve.proofs.server.serve.Goals.{in-Err, in-Ok+in-Ok-begin+in-Ok-workers_of+in-Ok-run_workers, in-Ok+in-Ok-begin+in-Ok-workers_of+in-Err-run_workers}

pub returns-clause-accepted : goal.returns-clause-accepted
returns-clause-accepted g c =
    let told = g.P.Port.waiting c.args.parts.port.now in
    let left = g.P.Port.waiting c.accept_all.new.port in
    let promised = λ (r : Result (Vec PairEnd Global) ServeFault). OnOk r ((conns : List _) × HandedOut told conns left × (length conns ≡ 2 * c.args.pairs)) in
    elim c.match-accept_all.branch [
      | in-Err w ↦ subst promised (sym w.result-is) tt
      | in-Ok+in-Ok-begin+in-Ok-workers_of+in-Ok-run_workers w ↦
          subst promised (sym w.result-is) (w.in-Ok.conns.items, w.in-Ok.ensures.first, w.in-Ok.ensures.count)
      | in-Ok+in-Ok-begin+in-Ok-workers_of+in-Err-run_workers w ↦ subst promised (sym w.result-is) tt
    ]

pub returns-clause-ends : goal.returns-clause-ends
returns-clause-ends g c =
    let lent : Terms = record {
      bounds = g.C.Clock.bounds c.args.parts.clock.now;
      idle = c.args.idle;
      is_sure = g.N.Faults.is_sure c.args.parts.notify.now;
    } in
    let promised = λ (r : Result (Vec PairEnd Global) ServeFault). IfOk r (λ ends. IfSome (g.P.Port.waiting c.args.parts.port.now)
    (λ conns. EndsFit g.P.C.Tells.telling g.P.C.Faults.is_sure lent conns ends.items)) in
    elim c.match-accept_all.branch [
      | in-Err w ↦ subst promised (sym w.result-is) tt
      | in-Ok+in-Ok-begin+in-Ok-workers_of+in-Ok-run_workers w ↦
          let begun = w.in-Ok-begin.begun in
          let workers = w.in-Ok-workers_of.workers.items in
          let own : Terms = record {
            bounds = g.C.Clock.bounds c.args.parts.clock.now;
            idle = c.args.idle;
            is_sure = g.N.Faults.is_sure begun.member.notifier;
          } in
          let under : AllServeUnder lent begun.member.claim.sure_of_wait workers =
          all_serve_lent own lent begun.member.claim.sure_of_wait workers refl refl w.in-Ok-begin.ensures.notifier w.in-Ok-workers_of.ensures.under in
          let fit : AllZip (PlaceFits lent) begun.places.items w.in-Ok-run_workers.ends.items =
          w.in-Ok-run_workers.ensures.ends lent begun.member.claim.sure_of_wait begun.places.items under w.in-Ok-workers_of.ensures.dealt in
          subst promised (sym w.result-is) (told_fit g.P.C.Tells.telling g.P.C.Faults.is_sure lent (g.P.Port.waiting c.args.parts.port.now)
          (g.P.Port.waiting c.accept_all.new.port) w.in-Ok.conns.items begun.places.items w.in-Ok-run_workers.ends.items w.in-Ok.ensures.first
          w.in-Ok-begin.ensures.places fit)
      | in-Ok+in-Ok-begin+in-Ok-workers_of+in-Err-run_workers w ↦ subst promised (sym w.result-is) tt
    ]

pub returns-clause-count : goal.returns-clause-count
returns-clause-count g c =
    let promised = λ (r : Result (Vec PairEnd Global) ServeFault). IfOk r (λ ends. length ends.items ≡ c.args.pairs) in
    elim c.match-accept_all.branch [
      | in-Err w ↦ subst promised (sym w.result-is) tt
      | in-Ok+in-Ok-begin+in-Ok-workers_of+in-Ok-run_workers w ↦
          let begun = w.in-Ok-begin.begun in
          let workers = w.in-Ok-workers_of.workers.items in
          let ends = w.in-Ok-run_workers.ends.items in
          let own : Terms = record {
            bounds = g.C.Clock.bounds c.args.parts.clock.now;
            idle = c.args.idle;
            is_sure = g.N.Faults.is_sure begun.member.notifier;
          } in
          let fit : AllZip (PlaceFits own) begun.places.items ends =
          w.in-Ok-run_workers.ensures.ends own begun.member.claim.sure_of_wait begun.places.items w.in-Ok-workers_of.ensures.under
          w.in-Ok-workers_of.ensures.dealt in
          let two : length w.in-Ok.conns.items ≡ 2 * length ends =
          as_many g.P.C.Tells.telling g.P.C.Faults.is_sure (PlaceFits own) w.in-Ok.conns.items begun.places.items ends w.in-Ok-begin.ensures.places fit in
          let all : length w.in-Ok.conns.items ≡ 2 * c.args.pairs = w.in-Ok.ensures.count in
          let count : length ends ≡ c.args.pairs = omega (arith, two, all) in
          subst promised (sym w.result-is) count
      | in-Ok+in-Ok-begin+in-Ok-workers_of+in-Err-run_workers w ↦ subst promised (sym w.result-is) tt
    ]

pub returns-clause-cause : goal.returns-clause-cause
returns-clause-cause g c =
    let before = g.P.Faults.fault_count c.args.parts.port.now in
    let after = g.P.Faults.fault_count c.accept_all.new.port in
    let wait_sure = g.W.Faults.is_sure c.args.parts.wait.now in
    let lent : Terms = record {
      bounds = g.C.Clock.bounds c.args.parts.clock.now;
      idle = c.args.idle;
      is_sure = g.N.Faults.is_sure c.args.parts.notify.now;
    } in
    let promised = λ (r : Result (Vec PairEnd Global) ServeFault). IfErr r (HasServeCause before after wait_sure lent.is_sure) in
    elim c.match-accept_all.branch [
      | in-Err w ↦ subst promised (sym w.result-is) (any_cause before after wait_sure lent.is_sure w.in-Err.fault w.in-Err.ensures.cause)
      | in-Ok+in-Ok-begin+in-Ok-workers_of+in-Ok-run_workers w ↦ subst promised (sym w.result-is) tt
      | in-Ok+in-Ok-begin+in-Ok-workers_of+in-Err-run_workers w ↦
          let begun = w.in-Ok-begin.begun in
          let workers = w.in-Ok-workers_of.workers.items in
          let fault = w.in-Err-run_workers.fault in
          let own : Terms = record {
            bounds = g.C.Clock.bounds c.args.parts.clock.now;
            idle = c.args.idle;
            is_sure = g.N.Faults.is_sure begun.member.notifier;
          } in
          let under : AllServeUnder lent begun.member.claim.sure_of_wait workers =
          all_serve_lent own lent begun.member.claim.sure_of_wait workers refl refl w.in-Ok-begin.ensures.notifier w.in-Ok-workers_of.ensures.under in
          let stops : StopsFor wait_sure lent.is_sure fault = subst (λ sure. StopsFor sure lent.is_sure fault) w.in-Ok-begin.ensures.wait
          (one_stops_for lent begun.member.claim.sure_of_wait workers fault under w.in-Err-run_workers.ensures.cause) in
          subst promised (sym w.result-is) (subst (HasServeCause before after wait_sure lent.is_sure) (sym w.fault_of.ensures)
          (worker_cause before after wait_sure lent.is_sure fault stops))
    ]

pub returns-in_default-workers_of-clause-handed : goal.returns-in_default-workers_of-clause-handed
returns-in_default-workers_of-clause-handed g c = search rules
