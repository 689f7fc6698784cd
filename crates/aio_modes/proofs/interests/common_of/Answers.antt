use Rattle.std.proofs.Common.{rules, of_calls, ◌&&◌}
use Rattle.aio_base.specs.World.{has_dir}
use Rattle.aio_base.proofs.DirectionLemmas.{tested}
use Rattle.aio_modes.proofs.interests.common_of.Goals as goal

pub returns : goal.returns
returns c = tested c.from_fn.result (λ dir. has_dir c.args.a dir && has_dir c.args.b dir) (λ dir. let e = c.from_fn.ensures dir in search (rules, of_calls, e) parts 8)
