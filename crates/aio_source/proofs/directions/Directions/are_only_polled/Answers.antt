use Rattle.std.proofs.Common.{rules, of_calls}
use Rattle.aio_source.proofs.WaiterLemmas.{only_polled}
use Rattle.aio_source.proofs.directions.Directions.are_only_polled.Goals as goal

pub returns : goal.returns
returns c = λ polled. only_polled c.args.self.now c.from_fn.result (λ dir none. let e = c.from_fn.ensures dir in search (rules, of_calls, e, none) parts 8) (search rules)
