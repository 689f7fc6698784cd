use Rattle.std.proofs.Common.{false, ap, sym, ◌∙◌}
use Rattle.aio_base.specs.Devices.{raised}
use Rattle.aio_sources.specs.Sources.{SourceRefValue}
use Rattle.aio_sources.proofs.sealed.SourceRef.visit.Goals as goal

pub returns-clause-visits : goal.returns-clause-visits
returns-clause-visits g c =
    let token = c.args.self.now in
    let rest = g.A.Arm.rest c.visit_in-left.result.0.value.io in
    record {
      found = c.enter-cell.result.value;
      key_is = c.enter-cell.ensures.key;
      rest_is = c.enter-cell.ensures.rest;
      put = c.visit_in-left.result.0.value;
      visited = c.visit_in-left.ensures.visits;
      token_is = c.leave.ensures ∙ ap (λ (t : SourceRefValue). record t { inside = false; rest = rest }) c.enter-cell.ensures.inside
          ∙ (λ i. record token { inside = sym c.requires.outside i; rest = rest; visits = raised token.visits });
    }
