use Rattle.std.proofs.Common.{◌≡◌, length, sym, ap, ◌∙◌, arith}
use Rattle.aio_source.specs.KeyTables.{put_at}
use Rattle.aio_source.proofs.KeyPlaces.{put_set, put_last}
use Rattle.aio_source.proofs.key_table.fill_place.Goals as goal

pub returns-then-at-len-clause-items : goal.returns-then-at-len-clause-items
returns-then-at-len-clause-items g c = sym (put_set c.args.places.now.items c.args.at c.args.x (omega arith))

pub returns-else-at-len-clause-items : goal.returns-else-at-len-clause-items
returns-else-at-len-clause-items g c =
    let last : c.args.at ≡ length c.args.places.now.items = omega arith in
    c.push_reserved.ensures.items ∙ sym (ap (λ i. put_at c.args.places.now.items i c.args.x) last ∙ put_last c.args.places.now.items c.args.x)
