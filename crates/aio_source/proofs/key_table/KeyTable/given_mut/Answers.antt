use Rattle.std.proofs.Common.{ap, arith}
use Rattle.aio_source.specs.KeyTables.{least_free}
use Rattle.aio_source.proofs.KeyPlaces.{taken_more, read_back}
use Rattle.aio_source.proofs.key_table.KeyTable.given_mut.Goals as goal

-- whatever is written in its place, no key below is freed
pub invariant_of-self-lent : goal.invariant_of-self-lent
invariant_of-self-lent g c lent =
    let places = c.self.inside.places.items in
    let key = c.args.key.0 in (
      λ w. (omega arith, omega arith, omega (arith, taken_more places key w)),
      (omega arith, omega arith, omega (arith, ap least_free (read_back places key c.index_mut.result.now c.index_mut.ensures.value))),
    )
