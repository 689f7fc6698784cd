-- What the writes of a connection in memory send.
use Rattle.std.specs.Prelude.{◌≡◌, ℕ, suc, zero, ◌-◌, ◌==◌, Bool, true, if◌then◌else◌, List, [], ◌++◌, length, take, min, Option, None, Some, option_map, IsTrue}
use Rattle.aio_base.specs.declared.connections.Did.{Did}
use Rattle.aio_base.specs.declared.connections.Did.TheVariants.{Bytes, Blocked}

-- how many bytes a write takes at most, how many it will still take in all where that is bounded, what was sent, and whether that is told
pub record SendingValue : Type 0 where
  pub at_once : ℕ
  pub room : Option ℕ
  pub sent : List ℕ
  pub tells : Bool

-- so many bytes, or as many as there is room for
abbrev pub within : Option ℕ → ℕ → ℕ
within None count = count
within (Some left) count = min left count

-- how many of so many bytes a write takes
abbrev pub count_taken : SendingValue → ℕ → ℕ
count_taken s count = within s.room (min s.at_once count)

-- a write that takes none blocks
abbrev pub told_count : ℕ → Did
told_count zero = Blocked
told_count (suc count) = Bytes (suc count)

-- The relation of a write. Where it finds no memory for the bytes, it takes them all the same: what was sent is then told no longer, and stays as it was.
pub record Writes (old : SendingValue) (piece : List ℕ) (answer : Did) (new : SendingValue) : Type 0 where
  pub told : answer ≡ told_count (count_taken old (length piece))
  pub at_once : new.at_once ≡ old.at_once
  pub room : new.room ≡ option_map (λ left. left - count_taken old (length piece)) old.room
  pub sent : new.sent ≡ (if new.tells then old.sent ++ take (count_taken old (length piece)) piece else old.sent)
  pub tells : IsTrue new.tells → IsTrue old.tells
  pub stays : answer ≡ Blocked → new ≡ old

-- what was sent, where it is told
abbrev pub told_sent : SendingValue → Option (List ℕ)
told_sent s = if s.tells then Some s.sent else None

-- a room of 2^32 - 1 bytes is no bound
abbrev pub room_of : ℕ → Option ℕ
room_of room = if room == 4294967295 then None else Some room

-- of which nothing was sent
abbrev pub new_sending : ℕ → ℕ → SendingValue
new_sending at_once room = record { at_once = at_once; room = room_of room; sent = []; tells = true }
