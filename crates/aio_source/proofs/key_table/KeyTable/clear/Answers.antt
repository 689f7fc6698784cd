use Rattle.std.proofs.Common.{arith}
use Rattle.aio_source.proofs.KeyPlaces.{taken_left}
use Rattle.aio_source.proofs.key_table.KeyTable.clear.Goals as goal

pub invariant_of-self : goal.invariant_of-self
invariant_of-self g c = (omega arith, omega arith, omega (arith, taken_left c.self.inside.places.items c.args.key.0))
