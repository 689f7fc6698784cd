-- A lock that holds one value with two notes: what its tokens know, what each kind of step changes, and the rule that holds between any two steps.
-- Its table has one word, 0 where the value is in its place and 1 where it is taken, and one slot, the place of the value.
use Rattle.std.specs.Prelude.{◌≡◌, ℕ, ◌+◌, ◌≤◌, Bool, true, false, ◌||◌, if◌then◌else◌, List, [], ◌∷◌, Option, Some, None, is_some, unwrap_or}
use mathlib.Core.Option.{some}
use mathlib.Core.Option as slot
use lib.ListN.{get_elem?}
use Rattle.aio_rules.specs.declared.lock_views.LockView.{LockView}
use Rattle.aio_rules.specs.declared.lock_views.LockSeat.{LockSeat}

-- ## What tokens know

-- a token that owns no number and has taken nothing: a visitor's, and what a joined owner leaves
abbrev pub nobody : LockView
nobody = record { owns_first = false; owns_second = false; first = []; second = []; taken = None }

-- the owner of one number alone, outside, that knows this note of it
abbrev pub first_owner : List ℕ → LockView
first_owner note = record { owns_first = true; owns_second = false; first = note; second = []; taken = None }

abbrev pub second_owner : List ℕ → LockView
second_owner note = record { owns_first = false; owns_second = true; first = []; second = note; taken = None }

-- one token for both numbers, inside before there is a value, of which the two owners are made
abbrev pub sole_owner : LockView
sole_owner = record { owns_first = true; owns_second = true; first = []; second = []; taken = Some ([], []) }

abbrev pub is_inside : LockView → Bool
is_inside v = is_some v.taken

-- the notes of the value that a token took out, empty where none was there yet
abbrev pub taken_first : LockView → List ℕ
taken_first v = (unwrap_or v.taken ([], [])).0

abbrev pub taken_second : LockView → List ℕ
taken_second v = (unwrap_or v.taken ([], [])).1

-- a token that took out a value with these notes
abbrev pub took_out : List ℕ → List ℕ → LockView → LockView
took_out a b v = record v { taken = Some (a, b) }

-- a token that put back a value with these notes: of its own numbers it knows these notes, and it has taken nothing
abbrev pub put_back : List ℕ → List ℕ → LockView → LockView
put_back a b v = record v { first = if v.owns_first then a else v.first; second = if v.owns_second then b else v.second; taken = None }

-- an owner that took in another: the numbers of both, with their notes
abbrev pub joined_owner : LockView → LockView → LockView
joined_owner v other = record {
  owns_first = v.owns_first || other.owns_first;
  owns_second = v.owns_second || other.owns_second;
  first = if v.owns_first then v.first else other.first;
  second = if v.owns_second then v.second else other.second;
  taken = None;
}

-- a value with these notes agrees with what a token knows of its own numbers
pub record AgreesWithNotes (v : LockView) (a b : List ℕ) : Type 0 where
  pub first : v.owns_first ≡ true → a ≡ v.first
  pub second : v.owns_second ≡ true → b ≡ v.second

-- A token that is inside may put back a value with these notes: those of numbers that it does not own are as it took them out.
pub record MayPutBack (v : LockView) (a b : List ℕ) : Type 0 where
  pub inside : is_inside v ≡ true
  pub first : v.owns_first ≡ false → a ≡ taken_first v
  pub second : v.owns_second ≡ false → b ≡ taken_second v

-- ## The seats

abbrev pub with_slot : LockView → LockSeat
with_slot v = record { view = v; has_slot = true }

abbrev pub without_slot : LockView → LockSeat
without_slot v = record { view = v; has_slot = false }

-- this holds of each seat
abbrev pub EachSeat : List LockSeat → (LockSeat → Type 0) → Type 0
EachSeat seats Holds = (seat : ℕ) (s : LockSeat) → get_elem? seats seat ≡ some s → Holds s

abbrev pub one_if : Bool → ℕ
one_if true = 1
one_if false = 0

-- how many seats are so
abbrev pub count : (LockSeat → Bool) → List LockSeat → ℕ
count so [] = 0
count so (s ∷ seats) = one_if (so s) + count so seats

abbrev pub owns_first : LockSeat → Bool
owns_first s = s.view.owns_first

abbrev pub owns_second : LockSeat → Bool
owns_second s = s.view.owns_second

abbrev pub has_taken : LockSeat → Bool
has_taken s = is_inside s.view

-- ## The rule

-- What a seat knows is so, where these are the two notes as the owners know them.
pub record Knows (first second : List ℕ) (s : LockSeat) : Type 0 where
  pub of_first : s.view.owns_first ≡ true → s.view.first ≡ first
  pub of_second : s.view.owns_second ≡ true → s.view.second ≡ second
  pub of_taken : (notes : List ℕ × List ℕ) → s.view.taken ≡ Some notes → notes ≡ (first, second)
  -- only a seat that has taken has the slot
  pub of_slot : s.has_slot ≡ true → has_taken s ≡ true

-- what the place of the value has: nothing where the slot is out, else the value or None
abbrev pub ValuePlace : Type 0 → Type 0
ValuePlace T = slot.Option (Option T)

-- a seat that has taken, and has not the slot, left the place empty
abbrev pub LeavesEmpty : {T : Type 0} → ValuePlace T → LockSeat → Type 0
LeavesEmpty place s = has_taken s ≡ true → s.has_slot ≡ false → place ≡ some None

module _ {T : Type 0} (first_note second_note : T → List ℕ) where
  -- The value is in its place, with these notes.
  pub record IsFull (first second : List ℕ) (place : ValuePlace T) : Type 0 where
    pub value : T
    pub there : place ≡ some (Some value)
    pub first_is : first_note value ≡ first
    pub second_is : second_note value ≡ second

  -- The rule over the word, the place of the value, and all seats.
  pub record LockRule (word : ℕ) (place : ValuePlace T) (seats : List LockSeat) : Type 0 where
    pub bit : word ≤ 1
    -- each number is owned by exactly one seat
    pub first_owned : count owns_first seats ≡ 1
    pub second_owned : count owns_second seats ≡ 1
    -- where the word is 0 no seat has taken, and where it is 1 exactly one has
    pub takers : count has_taken seats ≡ word
    -- the two notes as the owners know them, which are also those that were taken
    pub first : List ℕ
    pub second : List ℕ
    pub knows : EachSeat seats (Knows first second)
    -- where the word is 0 the value is in its place, with these notes
    pub full : word ≡ 0 → IsFull first second place
    pub empty : EachSeat seats (LeavesEmpty place)
