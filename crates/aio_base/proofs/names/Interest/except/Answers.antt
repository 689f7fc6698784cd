use Rattle.std.proofs.Common.{rules, of_calls, not, ◌&&◌}
use Rattle.aio_base.specs.World.{has_dir}
use Rattle.aio_base.proofs.DirectionLemmas.{tested}
use Rattle.aio_base.proofs.names.Interest.except.Goals as goal

pub returns : goal.returns
returns c = tested c.from_fn.result (λ dir. not (has_dir c.args.other dir) && has_dir c.args.self dir) (λ dir. let e = c.from_fn.ensures dir in search (rules, of_calls, e) parts 8)
