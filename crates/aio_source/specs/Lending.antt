-- The directions of a source, of which one is lent to be changed.
use Rattle.std.specs.Borrow.{Lends, MutBor, Fml}
use Rattle.aio_base.specs.declared.names.Dir.{Dir}
use Rattle.aio_source.specs.Values.{DirectionValue, DirectionValues}
use Rattle.aio_source.specs.Rules.{with_direction}
use Rattle.aio_source.specs.contracts.directions.Directions.{the_row}
use Rattle.aio_source.specs.contracts.direction.Direction.{the_row as the_direction}

-- the directions end with this one as it was left
abbrev pub LendsDirection : MutBor DirectionValues → Dir → MutBor DirectionValue → Fml
LendsDirection ds dir lent = Lends the_row the_direction ds lent (with_direction ds.now dir)
