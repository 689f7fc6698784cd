-- What contracts see of a book of timers.
use Rattle.std.specs.Prelude.{ℕ, List, Option, None, Some}
use Rattle.aio_base.specs.declared.names.TimerId.{TimerId}
use Rattle.aio_base.specs.World.{Registration}
use Rattle.aio_base.specs.Timers.{without_pair}

-- the registered timers in the order in which they fire, and for how many more there is room, as
-- far as 32 bits tell
pub record Book : Type 0 where
  pub entries : List Registration
  pub spare : ℕ

-- the registrations without the one of this deadline and this id, where there is such
abbrev pub entries_without : Option (ℕ × TimerId) → List Registration → List Registration
entries_without None entries = entries
entries_without (Some pair) entries = without_pair pair.0 pair.1.0 entries
