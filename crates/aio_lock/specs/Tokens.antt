-- What contracts see of the tokens of a lock, and what their types keep.
use Rattle.std.specs.Prelude.{◌≡◌, ℕ, List, [], ◌∷◌, None}
use Rattle.atomic_table.specs.Seated.{TableId}
use Rattle.aio_rules.specs.declared.lock_views.LockView.{LockView}
use Rattle.aio_rules.specs.declared.lock_views.LockSeat.{LockSeat}
use Rattle.aio_rules.specs.SharedLock.{nobody, took_out, taken_first, taken_second, without_slot, AgreesWithNotes}

-- an owner: the lock to which it belongs, and what it knows
pub record OwnerValue : Type 0 where
  pub lock : TableId
  pub knows : LockView

-- a visit: the lock that is visited, and the two notes of the value that was taken out
pub record VisitValue : Type 0 where
  pub lock : TableId
  pub first : List ℕ
  pub second : List ℕ

-- the one view of a badge
abbrev pub view_of : List LockSeat → LockView
view_of [] = nobody
view_of (s ∷ seats) = s.view

-- between calls the slot is in its place, or has the value
abbrev pub IsResting : List LockSeat → Type 0
IsResting views = views ≡ without_slot (view_of views) ∷ []

-- a visitor owns nothing, and is inside
abbrev pub IsVisiting : LockView → Type 0
IsVisiting v = v ≡ took_out (taken_first v) (taken_second v) nobody

-- an owner of this lock that knows this
abbrev pub owner_of : TableId → LockView → OwnerValue
owner_of lock knows = record { lock = lock; knows = knows }

-- a visit of this lock that knows the notes of the value that it took out
abbrev pub visit_of : TableId → LockView → VisitValue
visit_of lock view = record { lock = lock; first = taken_first view; second = taken_second view }

-- a table of one word and one slot
abbrev pub IsLock : TableId → Type 0
IsLock l = (l.words ≡ 1) × (l.slots ≡ 1)

-- a token of this lock that has taken nothing
abbrev pub IsOutside : TableId → OwnerValue → Type 0
IsOutside lock token = (token.lock ≡ lock) × (token.knows.taken ≡ None)

module _ {T : Type 0} (first_note second_note : T → List ℕ) where
  -- A token of this lock took out this value: it knows the notes, which agree with what it knew before.
  abbrev pub Entered : TableId → LockView → T → OwnerValue → Type 0
  Entered lock before value token = (token ≡ owner_of lock (took_out (first_note value) (second_note value) before)) × AgreesWithNotes before (first_note value) (second_note value)
