-- What the calls of a device mean: its count of faults, what a poller has armed, which calls were made.
use Rattle.std.specs.Prelude.{◌≡◌, ℕ, ◌+◌, ◌-◌, ◌^◌, ◌≤◌, Bool, IsTrue, ◌==◌, if◌then◌else◌, List, [], ◌∷◌, Option, None, Some, Result, Ok, Err, ⊤, min}
use Rattle.aio_base.specs.declared.names.Key.{Key}
use Rattle.aio_base.specs.declared.names.Interest.{Interest}
use Rattle.aio_base.specs.declared.names.TheConstants.Interest.{NONE}
use Rattle.aio_base.specs.declared.names.Event.{Event}
use Rattle.aio_base.specs.declared.outcomes.Failed.{Failed}
use Rattle.aio_base.specs.declared.outcomes.Waited.{Waited}

-- one more, or the type's end, where a count stands still
abbrev pub raised : ℕ → ℕ
raised count = min (count + 1) (2 ^ 64 - 1)

-- the count rose: it is greater than before, or it stands at its end
abbrev pub Rose : ℕ → ℕ → Type 0
Rose before after = raised before ≤ after

-- The count of faults over one call: it does not fall, it rose where the call failed, and neither a failure nor a rise comes of a sure object.
pub record HasCause (before after : ℕ) (sure : Bool) (failed : Type 0) : Type 0 where
  pub later : before ≤ after
  pub rose : failed → Rose before after
  pub never : IsTrue sure → (¬ failed) × (after ≡ before)

-- the same of an object with such a count, in the states before the call and after it; whether it is sure stays
pub record TellsFaults {S : Type 0} (count : S → ℕ) (is_sure : S → Bool) (old new : S) (failed : Type 0) : Type 0 where
  pub cause : HasCause (count old) (count new) (is_sure old) failed
  pub sure : is_sure new ≡ is_sure old

-- what a poller watches: an interest for each key
abbrev pub Interests : Type 0
Interests = ℕ → Interest

-- the same, with another interest at one key
abbrev pub with_interest : ℕ → Interest → Interests → Interests
with_interest key on interests = λ k. if k == key then on else interests k

-- an event clears the whole interest of its key (`polling` 3, oneshot mode)
abbrev pub clear_interests : List Event → Interests → Interests
clear_interests [] interests = interests
clear_interests (event ∷ events) interests = clear_interests events (with_interest event.key.0 NONE interests)

-- what is told after a change, where it was told before; what is told stays told, and what is not told stays untold
abbrev pub Becomes : Option Interests → Option Interests → (Interests → Interests) → Type 0
Becomes None None change = ⊤
Becomes None (Some new) change = ⊥
Becomes (Some old) None change = ⊥
Becomes (Some old) (Some new) change = (key : ℕ) → new key ≡ change old key

-- a call of a poller that changes one key's interest, with its arguments
pub data ArmCall : Type 0 where
  AddOf : Key → ArmCall
  ArmOf : Key → Interest → ArmCall
  RemoveOf : Key → ArmCall

-- what a call that succeeds makes of the interests: a new source and one taken out have none
abbrev pub changed_by : ArmCall → Interests → Interests
changed_by (AddOf key) interests = with_interest key.0 NONE interests
changed_by (ArmOf key on) interests = with_interest key.0 on interests
changed_by (RemoveOf key) interests = with_interest key.0 NONE interests

-- what a call makes of the interests where they are told; a call that fails leaves them
abbrev pub Arms : Option Interests → ArmCall → Result (Unit {0}) Failed → Option Interests → Type 0
Arms old call (Ok done) new = Becomes old new (changed_by call)
Arms old call (Err failed) new = Becomes old new (λ interests. interests)

-- a wait with its arguments, beside the list that it adds to
pub record WaitCall : Type 0 where
  pub room : ℕ
  pub limit : Option ℕ

-- one call of a poller with its answer; the events that a wait added belong to its answer
pub data PollerMove : Type 0 where
  Armed : ArmCall → Result (Unit {0}) Failed → PollerMove
  Awaited : WaitCall → Result Waited Failed → List Event → PollerMove

-- one call of an object that is both an Arm and an EventWait, by its two relations
abbrev pub PollerStep : {S : Type 0} → (S → ArmCall → Result (Unit {0}) Failed → S → Type 0)
    → (S → WaitCall → Result Waited Failed → List Event → S → Type 0) → S → PollerMove → S → Type 0
PollerStep arm_step wait_step old (Armed call answer) new = arm_step old call answer new
PollerStep arm_step wait_step old (Awaited call answer added) new = wait_step old call answer added new

-- these moves, one after the other, lead from the one state to the other
abbrev pub RunOf : {S M : Type 0} → (S → M → S → Type 0) → S → List M → S → Type 0
RunOf step old [] new = new ≡ old
RunOf {S} step old (move ∷ moves) new = (mid : S) × step old move mid × RunOf step mid moves new
