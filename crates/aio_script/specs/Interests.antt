-- The interest of each key in the order of the keys, and what calls and events make of it.
use Rattle.std.specs.Prelude.{List, [], ◌∷◌, replicate, slice_index_or, slice_set}
use Rattle.aio_base.specs.declared.names.Interest.{Interest}
use Rattle.aio_base.specs.declared.names.Event.{Event}
use Rattle.aio_base.specs.Devices.{Interests, ArmCall, AddOf, ArmOf, RemoveOf}
use Rattle.aio_base.specs.declared.names.TheConstants.Interest.{NONE}

-- the interest of each key; a key past the last entry has none
abbrev pub interests_in : List Interest → Interests
interests_in entries key = slice_index_or entries key NONE

-- no interest for each of the 4,096 keys
unfoldable pub none_armed : List Interest
none_armed = replicate 4096 NONE

-- the entries after a call that did not fail
abbrev pub entries_after : ArmCall → List Interest → List Interest
entries_after (AddOf key) entries = slice_set entries key.0 NONE
entries_after (ArmOf key on) entries = slice_set entries key.0 on
entries_after (RemoveOf key) entries = slice_set entries key.0 NONE

-- the entries once these events were given: the entry of each key that they name is none
abbrev pub cleared : List Event → List Interest → List Interest
cleared [] entries = entries
cleared (event ∷ events) entries = cleared events (slice_set entries event.key.0 NONE)
