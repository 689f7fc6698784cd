-- The rule of a lock as the table takes it, and what a step of each kind tells its seat.
use Rattle.std.specs.Prelude.{◌≡◌, ℕ, ◌==◌, List, [], ◌∷◌, Option, Some, None, MatchBool}
use Rattle.atomic_table.specs.Table.{State, Me, rest}
use Rattle.aio_rules.specs.declared.lock_views.LockSeat.{LockSeat}
use Rattle.aio_rules.specs.SharedLock.{nobody, took_out, put_back, AgreesWithNotes, with_slot, without_slot, ValuePlace, LockRule}

-- a seat beside the slots that are out with it, each with its value
abbrev pub SeatState : Type 0 → Type 0
SeatState T = Me (Option T) LockSeat

module _ {T : Type 0} (first_note second_note : T → List ℕ) where
  -- the rule of a lock, over a table of one word and one slot
  pub record Ruled (s : State (Option T) LockSeat) : Type 0 where
    pub word : ℕ
    pub place : ValuePlace T
    pub one_word : s.words ≡ word ∷ []
    pub one_slot : s.homes ≡ place ∷ []
    pub rule : LockRule first_note second_note word place s.views

  -- the value came out to this seat, and agrees with what the seat knew
  pub record Took (me after : SeatState T) : Type 0 where
    pub value : T
    pub now : after ≡ (with_slot (took_out (first_note value) (second_note value) me.0.view), (0, Some value) ∷ [])
    pub agrees : AgreesWithNotes me.0.view (first_note value) (second_note value)

  -- an exchange that finds 0 takes the value out, and one that finds 1 changes nothing
  abbrev pub Closes : SeatState T → ℕ → SeatState T → Type 0
  Closes me found after = MatchBool (found == 0) (Took me after) (after ≡ me)

  -- the same of a visitor that has just come
  abbrev pub Arrived : ℕ → SeatState T → Type 0
  Arrived found after = Closes (without_slot nobody, []) found after

  -- a store puts back the value that the slot has
  abbrev pub Opens : SeatState T → SeatState T → Type 0
  Opens me after = (value : T) → me.1 ≡ (0, Some value) ∷ [] → after ≡ (without_slot (put_back (first_note value) (second_note value) me.0.view), [])

module _ {T : Type 0} where
  -- the slot is out with this seat, and has a value
  abbrev pub IsLaden : SeatState T → Type 0
  IsLaden me = (value : T) × (me ≡ (with_slot me.0.view, (0, Some value) ∷ []))

  abbrev pub LeavesSlot : SeatState T → SeatState T → Type 0
  LeavesSlot me after = after ≡ (without_slot me.0.view, rest me.1)

  abbrev pub FetchesSlot : SeatState T → SeatState T → Type 0
  FetchesSlot me after = after ≡ (with_slot me.0.view, (0, None) ∷ me.1)
