-- The directions of a source. What has to look at each of them by its name stands here; all else speaks of any direction.
use Rattle.std.proofs.Common.{◌≡◌, false, refl}
use Rattle.aio_base.specs.declared.names.Dir.{Dir}
use Rattle.aio_base.specs.declared.names.Dir.TheVariants.{Read, Write, Priority}
use Rattle.aio_base.specs.World.{same_dir}
use Rattle.aio_source.specs.Values.{DirectionValue, DirectionValues}
use Rattle.aio_source.specs.Rules.{new_direction, new_directions, directions_where, direction_of, with_direction}

-- what holds of the new value of a direction, and of each other one as it is, holds of each of them then
pub each_put : (P : Dir → DirectionValue → Type 0) (ds : DirectionValues) (dir : Dir) (new : DirectionValue) → P dir new
    → ((d : Dir) → same_dir d dir ≡ false → P d (direction_of ds d)) → (d : Dir) → P d (direction_of (with_direction ds dir new) d)
each_put P ds Read new here aside Read = here
each_put P ds Write new here aside Write = here
each_put P ds Priority new here aside Priority = here
each_put P ds dir new here aside d = aside d refl

-- a value that was put is there
pub direction_put : (ds : DirectionValues) (dir : Dir) (new : DirectionValue) → direction_of (with_direction ds dir new) dir ≡ new
direction_put ds Read new = refl
direction_put ds Write new = refl
direction_put ds Priority new = refl

-- and a direction's own value changes nothing
pub put_itself : (ds : DirectionValues) (dir : Dir) → with_direction ds dir (direction_of ds dir) ≡ ds
put_itself ds Read = refl
put_itself ds Write = refl
put_itself ds Priority = refl

-- directions by their values
pub direction_of-where : (value : Dir → DirectionValue) (dir : Dir) → direction_of (directions_where value) dir ≡ value dir
direction_of-where value Read = refl
direction_of-where value Write = refl
direction_of-where value Priority = refl

pub each_new : (dir : Dir) → direction_of new_directions dir ≡ new_direction
each_new dir = direction_of-where (λ dir. new_direction) dir

pub where_values : (f g : Dir → DirectionValue) → ((dir : Dir) → f dir ≡ g dir) → directions_where f ≡ directions_where g
where_values f g same = λ i. record { read = same Read i; write = same Write i; priority = same Priority i }

-- a direction that got the value which these values have, where the other ones have theirs
pub put_where : (value : Dir → DirectionValue) (ds : DirectionValues) (dir : Dir) (new : DirectionValue) → new ≡ value dir
    → ((d : Dir) → same_dir d dir ≡ false → direction_of ds d ≡ value d) → with_direction ds dir new ≡ directions_where value
put_where value ds dir new own aside =
    where_values (direction_of (with_direction ds dir new)) value (each_put (λ d v. v ≡ value d) ds dir new own aside)
