-- What a poller in one of the three modes tells, what it owes and gives, and what its calls make of that.
use Rattle.std.specs.Prelude.{◌≡◌, ℕ, Bool, List, [], ◌∷◌, ◌++◌, filter, map, take, Option, None, Some, IfSome, Result, Ok, Err, IsErr, ⊤}
use Rattle.std.specs.List.{range_with_len}
use Rattle.aio_base.specs.declared.names.Interest.{Interest}
use Rattle.aio_base.specs.declared.names.TheConstants.Interest.{NONE}
use Rattle.aio_base.specs.declared.names.Event.{Event}
use Rattle.aio_base.specs.declared.outcomes.Failed.{Failed}
use Rattle.aio_base.specs.declared.outcomes.Waited.{Waited}
use Rattle.aio_base.specs.declared.outcomes.Waited.TheVariants.{Given, Interrupted}
use Rattle.aio_base.specs.Devices.{Interests, TellsFaults, with_interest, clear_interests, ArmCall, AddOf, ArmOf, RemoveOf, WaitCall, PollerMove, Armed, Awaited}
use Rattle.aio_base.specs.Waits.{IsCountOf}
use Rattle.aio_base.specs.World.{except}
use Rattle.aio_modes.specs.declared.mode.Mode.{Mode}
use Rattle.aio_modes.specs.declared.mode.Mode.TheVariants.{Level, Edge, EdgeOneshot}
use Rattle.aio_modes.specs.Interests.{common, joined, has_directions}

-- What a raw poller is asked for, what is ready, and what has become ready and was not given since, each as an interest for each key. A key that was
-- never set has none.
pub record RawLists : Type 0 where
  pub on : Interests
  pub ready : Interests
  pub edges : Interests

-- the list that is looked at for what there is to give
abbrev pub looked_at : Mode → RawLists → Interests
looked_at Level lists = lists.ready
looked_at Edge lists = lists.edges
looked_at EdgeOneshot lists = lists.edges

-- the directions of a key that are asked for and there to be given
abbrev pub Owed : Mode → RawLists → Interests
Owed mode lists key = common (lists.on key) (looked_at mode lists key)

abbrev pub event_of : Interests → ℕ → Event
event_of owed key = record { key = record { 0 = key }; on = owed key }

-- an event for each of the first n keys of which something is owed, in rising order, with what is owed
unfoldable pub owed_events : Interests → ℕ → List Event
owed_events owed n = filter has_directions (map (event_of owed) (range_with_len 0 n))

-- What a wait gives: the first `room` keys, in rising order, of which something is owed, each with what is owed. Of a key of 4,096 or more nothing is
-- asked for.
abbrev pub Gives : Mode → RawLists → ℕ → List Event
Gives mode lists room = take room (owed_events (Owed mode lists) 4096)

-- without the directions that these events name
abbrev pub lessened : List Event → Interests → Interests
lessened [] edges = edges
lessened (event ∷ events) edges = lessened events (with_interest event.key.0 (except (edges event.key.0) event.on) edges)

-- what these events, once given, leave: a level stays; else an edge is given once; a oneshot source has to be set anew
abbrev pub after_given : Mode → List Event → RawLists → RawLists
after_given Level events lists = lists
after_given Edge events lists = record lists { edges = lessened events lists.edges }
after_given EdgeOneshot events lists = record lists { on = clear_interests events lists.on; edges = lessened events lists.edges }

-- the interest of one key is this, and each direction of it that is ready has become so anew
abbrev pub set_to : ℕ → Interest → RawLists → RawLists
set_to key on lists = record lists { on = with_interest key on lists.on; edges = with_interest key (joined (lists.edges key) (common on (lists.ready key))) lists.edges }

-- what a call that succeeds makes of the lists; `ArmOf` stands for the setting of an interest
abbrev pub after_call : ArmCall → RawLists → RawLists
after_call (AddOf key) lists = record lists { on = with_interest key.0 NONE lists.on }
after_call (ArmOf key on) lists = set_to key.0 on lists
after_call (RemoveOf key) lists = record lists { on = with_interest key.0 NONE lists.on }

-- what is told after a change, where it was told before; what is told stays told, and what is not told stays untold
abbrev pub ToldAfter : Option RawLists → Option RawLists → (RawLists → RawLists) → Type 0
ToldAfter None None change = ⊤
ToldAfter None (Some new) change = ⊥
ToldAfter (Some old) None change = ⊥
ToldAfter (Some old) (Some new) change = new ≡ change old

-- What a call made of the lists, where they are told, and what a wait gave. A call that fails and a wait that is interrupted change nothing.
abbrev pub RawTells : Mode → PollerMove → Option RawLists → Option RawLists → Type 0
RawTells mode (Armed call (Ok done)) old new = ToldAfter old new (after_call call)
RawTells mode (Armed call (Err failed)) old new = ToldAfter old new (λ lists. lists)
RawTells mode (Awaited call (Ok (Given n)) added) old new = IfSome old (λ lists. added ≡ Gives mode lists call.room) × ToldAfter old new (after_given mode added)
RawTells mode (Awaited call (Ok Interrupted) added) old new = ToldAfter old new (λ lists. lists)
RawTells mode (Awaited call (Err failed) added) old new = ToldAfter old new (λ lists. lists)

-- the call failed
abbrev pub HasFailed : PollerMove → Type 0
HasFailed (Armed call answer) = IsErr answer
HasFailed (Awaited call answer added) = IsErr answer

-- One call of a raw poller: its own relation, its lists where they are told, its mode, which stays, and its faults.
pub record RawDid {S : Type 0} (step : S → PollerMove → S → Type 0) (told : S → Option RawLists) (mode : S → Mode) (count : S → ℕ) (is_sure : S → Bool) (old : S) (move : PollerMove) (new : S) : Type 0 where
  pub did : step old move new
  pub lists : RawTells (mode old) move (told old) (told new)
  pub same_mode : mode new ≡ mode old
  pub faults : TellsFaults count is_sure old new (HasFailed move)

-- A wait added these events at the end of the list.
abbrev pub RawWaited : {S : Type 0} → (step : S → PollerMove → S → Type 0) → (told : S → Option RawLists) → (mode : S → Mode) → (count : S → ℕ) → (is_sure : S → Bool) → S → WaitCall → Result Waited Failed → List Event → List Event → S → Type 0
RawWaited step told mode count is_sure old call answer before after new =
    (added : List Event) × (after ≡ before ++ added) × IsCountOf answer call.room added × RawDid step told mode count is_sure old (Awaited call answer added) new
