use Rattle.std.proofs.Common.{rules, of_calls, not}
use Rattle.aio_base.proofs.DirectionLemmas.{tested}
use Rattle.aio_source.specs.Rules.{is_idle, direction_of}
use Rattle.aio_source.proofs.directions.Directions.wanted.Goals as goal

pub returns : goal.returns
returns c = tested c.from_fn.result (λ dir. not (is_idle (direction_of c.args.self.now dir))) (λ dir. let e = c.from_fn.ensures dir in search (rules, of_calls, e) parts 8)
