-- The order in which nodes fire: by deadline, then by id.
use Rattle.std.specs.Prelude.{Bool, ◌&&◌, ◌||◌, ◌==◌, nat_lt}
use Rattle.aio_timers.specs.Held.{Held}

abbrev pub precedes : Held → Held → Bool
precedes a b = nat_lt a.deadline b.deadline || ((a.deadline == b.deadline) && nat_lt a.id b.id)
