-- A raw poller in memory as contracts see it, what is told to it, and when its calls fail.
use Rattle.std.specs.Prelude.{◌≡◌, ℕ, Bool, true, false, if◌then◌else◌, List, ◌++◌, length, take, Ok, Err}
use Rattle.aio_base.specs.declared.names.Interest.{Interest}
use Rattle.aio_base.specs.declared.names.Event.{Event}
use Rattle.aio_base.specs.declared.outcomes.Waited.TheVariants.{Given, Interrupted}
use Rattle.aio_base.specs.Devices.{Interests, raised, with_interest, AddOf, ArmOf, RemoveOf, PollerMove, Armed, Awaited}
use Rattle.aio_base.specs.World.{except}
use Rattle.aio_script.specs.Interests.{interests_in, none_armed}
use Rattle.aio_modes.specs.declared.mode.Mode.{Mode}
use Rattle.aio_modes.specs.declared.script.RawDue.{RawDue}
use Rattle.aio_modes.specs.declared.script.RawWhich.{RawWhich}
use Rattle.aio_modes.specs.declared.script.RawWhich.TheVariants.{Add, Set, Remove, Wait}
use Rattle.aio_modes.specs.Interests.{joined}
use Rattle.aio_modes.specs.Raw.{RawLists, owed_events}

-- A raw poller in memory: its mode, its three lists in the order of the keys, which calls are told to fail, and its count of faults.
pub record RawScriptState : Type 0 where
  pub mode : Mode
  pub on : List Interest
  pub ready : List Interest
  pub edges : List Interest
  pub due : RawDue
  pub faults : ℕ

abbrev pub lists_of : RawScriptState → RawLists
lists_of s = record { on = interests_in s.on; ready = interests_in s.ready; edges = interests_in s.edges }

abbrev pub nothing_fails : RawDue
nothing_fails = record { add = false; set = false; remove = false; wait = false }

abbrev pub new_raw_script : Mode → RawScriptState
new_raw_script mode = record { mode = mode; on = none_armed; ready = none_armed; edges = none_armed; due = nothing_fails; faults = 0 }

-- ## What is told to it

-- these directions join what is ready, and those of them that were not ready join the edges
abbrev pub with_ready : ℕ → Interest → RawLists → RawLists
with_ready key on lists = record lists { ready = with_interest key (joined (lists.ready key) on) lists.ready; edges = with_interest key (joined (lists.edges key) (except on (lists.ready key))) lists.edges }

-- these directions leave what is ready and the edges
abbrev pub with_idle : ℕ → Interest → RawLists → RawLists
with_idle key on lists = record lists { ready = with_interest key (except (lists.ready key) on) lists.ready; edges = with_interest key (except (lists.edges key) on) lists.edges }

-- its lists became these, and all else of it is as it was
pub record HasNow (old : RawScriptState) (lists : RawLists) (new : RawScriptState) : Type 0 where
  pub lists_are : lists_of new ≡ lists
  pub same_mode : new.mode ≡ old.mode
  pub same_due : new.due ≡ old.due
  pub same_faults : new.faults ≡ old.faults

-- the next call of this kind fails
abbrev pub with_failure : RawWhich → RawDue → RawDue
with_failure Add due = record due { add = true }
with_failure Set due = record due { set = true }
with_failure Remove due = record due { remove = true }
with_failure Wait due = record due { wait = true }

-- ## When its calls fail

-- whether a failure of such a call is due
abbrev pub fails_at : PollerMove → RawDue → Bool
fails_at (Armed (AddOf key) answer) due = due.add
fails_at (Armed (ArmOf key on) answer) due = due.set
fails_at (Armed (RemoveOf key) answer) due = due.remove
fails_at (Awaited call answer added) due = due.wait

-- which failures are due after such a call
abbrev pub due_after : PollerMove → RawDue → RawDue
due_after (Armed (AddOf key) answer) due = record due { add = false }
due_after (Armed (ArmOf key on) answer) due = record due { set = false }
due_after (Armed (RemoveOf key) answer) due = record due { remove = false }
due_after (Awaited call answer added) due = record due { wait = false }

-- Whether the call answered that it failed. It was never interrupted.
abbrev pub AnswersFailure : PollerMove → Bool → Type 0
AnswersFailure (Armed call (Ok done)) due = due ≡ false
AnswersFailure (Armed call (Err failed)) due = due ≡ true
AnswersFailure (Awaited call (Ok (Given n)) added) due = due ≡ false
AnswersFailure (Awaited call (Ok Interrupted) added) due = ⊥
AnswersFailure (Awaited call (Err failed) added) due = due ≡ true

-- A call failed exactly where that was due, which is due no longer; the count rose by one there, and nowhere else.
pub record ScriptDid (old : RawScriptState) (move : PollerMove) (new : RawScriptState) : Type 0 where
  pub answer : AnswersFailure move (fails_at move old.due)
  pub due : new.due ≡ due_after move old.due
  pub faults : new.faults ≡ (if fails_at move old.due then raised old.faults else old.faults)

-- the first n keys of which something is owed stand behind what was there, as far as there is room
pub record GivesSoFar (owed : Interests) (room : ℕ) (before : List Event) (n : ℕ) (items : List Event) (given : ℕ) : Type 0 where
  pub out : items ≡ before ++ take room (owed_events owed n)
  pub count : given ≡ length (take room (owed_events owed n))
