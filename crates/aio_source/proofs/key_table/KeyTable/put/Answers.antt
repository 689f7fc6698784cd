use Rattle.std.proofs.Common.{◌≡◌, ◌≤◌, length, sym, ap, ◌∙◌, arith}
use Rattle.aio_source.specs.KeyTables.{least_free}
use Rattle.aio_source.proofs.KeyPlaces.{free_within, put_few, taken_put}
use Rattle.aio_source.proofs.key_table.KeyTable.put.Goals as goal

pub fill_place-requires-clause-within : goal.fill_place-requires-clause-within
fill_place-requires-clause-within g c =
    let places = c.self.inside.places.items in
    let free : c.args.key.0 ≡ least_free places = c.requires.free ∙ ap least_free (sym c.self.view_is) in
    omega (arith, free, free_within places)

pub invariant_of-self : goal.invariant_of-self
invariant_of-self g c =
    let places = c.self.inside.places.items in
    let free : c.args.key.0 ≡ least_free places = c.requires.free ∙ ap least_free (sym c.self.view_is) in
    let few : length c.fill_place.new.places.items ≤ 4096 = rw c.fill_place.ensures.items (put_few places c.args.key.0 4096 c.args.x (omega arith) c.requires.bound) in
    (omega arith, omega arith, rw c.fill_place.ensures.items (taken_put places c.args.key.0 c.args.x free))
