-- What is true of the rule of a lock with notes: it holds at the start, and each kind of step keeps it.
use Rattle.std.specs.Prelude.{◌≡◌, ◌≢◌, ℕ, true, false, List, [], ◌∷◌, ◌++◌, Some, None, slice_set}
use mathlib.Core.Option.{some, none}
use lib.ListN.{get_elem?}
use Rattle.aio_rules.specs.declared.lock_views.LockSeat.{LockSeat}
use Rattle.aio_rules.specs.SharedLock.{nobody, first_owner, second_owner, sole_owner, took_out, put_back, joined_owner, AgreesWithNotes, MayPutBack, with_slot, without_slot, has_taken, ValuePlace, LockRule}

module _ {T : Type 0} (first_note second_note : T → List ℕ) where
  abbrev pub SeatsRule : ℕ → ValuePlace T → List LockSeat → Type 0
  SeatsRule = LockRule first_note second_note

  -- The value comes out of its place to a seat that knew this; the word becomes 1, and so are the seats then.
  pub record TakesOut (place : ValuePlace T) (knew : LockSeat) (seats : LockSeat → List LockSeat) : Type 0 where
    pub value : T
    pub there : place ≡ some (Some value)
    pub agrees : AgreesWithNotes knew.view (first_note value) (second_note value)
    pub rule : SeatsRule 1 none (seats (with_slot (took_out (first_note value) (second_note value) knew.view)))

  -- at the start the lock is taken, by the one seat that there is, and there is no value yet
  abbrev pub StartMeetsLockRule : Type 0
  StartMeetsLockRule = SeatsRule 1 (some None) (without_slot sole_owner ∷ [])

  -- of that seat the two owners are made, both notes empty: the owner of number 0 stays inside, and the owner of number 1 is outside
  abbrev pub OwnersKeepRule : Type 0
  OwnersKeepRule = (word : ℕ) (place : ValuePlace T) (seats : List LockSeat) (seat : ℕ)
      → SeatsRule word place seats → get_elem? seats seat ≡ some (without_slot sole_owner)
      → SeatsRule word place (slice_set seats seat (without_slot (took_out [] [] (first_owner []))) ++ without_slot (second_owner []) ∷ [])

  -- an exchange from 0 to 1 that wins, by a seat that has taken nothing
  abbrev pub ExchangeKeepsRule : Type 0
  ExchangeKeepsRule = (place : ValuePlace T) (seats : List LockSeat) (seat : ℕ) (s : LockSeat)
      → SeatsRule 0 place seats → get_elem? seats seat ≡ some s
      → TakesOut place s (λ after. slice_set seats seat after)

  -- an exchange that finds 1 changes nothing
  abbrev pub LostExchangeKeepsRule : Type 0
  LostExchangeKeepsRule = (place : ValuePlace T) (seats : List LockSeat) (seat : ℕ) (s : LockSeat)
      → SeatsRule 1 place seats → get_elem? seats seat ≡ some s
      → SeatsRule 1 place (slice_set seats seat s)

  -- a visitor's first swap to 1, which makes a seat, where it finds 0
  abbrev pub ArrivalKeepsRule : Type 0
  ArrivalKeepsRule = (place : ValuePlace T) (seats : List LockSeat)
      → SeatsRule 0 place seats → TakesOut place (without_slot nobody) (λ new. seats ++ new ∷ [])

  -- the same where it finds 1
  abbrev pub LateArrivalKeepsRule : Type 0
  LateArrivalKeepsRule = (place : ValuePlace T) (seats : List LockSeat)
      → SeatsRule 1 place seats → SeatsRule 1 place (seats ++ without_slot nobody ∷ [])

  -- the seat that has the slot leaves it in its place, with no value
  abbrev pub SlotGoesBack : Type 0
  SlotGoesBack = (word : ℕ) (place : ValuePlace T) (seats : List LockSeat) (seat : ℕ) (s : LockSeat)
      → SeatsRule word place seats → get_elem? seats seat ≡ some s → s.has_slot ≡ true
      → (word ≡ 1) × SeatsRule word (some None) (slice_set seats seat (without_slot s.view))

  -- the seat that has taken takes the slot, which has no value, out of its place
  abbrev pub SlotComesOut : Type 0
  SlotComesOut = (word : ℕ) (place : ValuePlace T) (seats : List LockSeat) (seat : ℕ) (s : LockSeat)
      → SeatsRule word place seats → get_elem? seats seat ≡ some s → has_taken s ≡ true → s.has_slot ≡ false
      → (word ≡ 1) × (place ≡ some None) × SeatsRule word none (slice_set seats seat (with_slot s.view))

  -- The store of 0 by the seat that has taken, with a value in the slot that it may put back. The notes of its own numbers alone change, so a
  -- visitor's store changes none.
  abbrev pub StoreKeepsRule : Type 0
  StoreKeepsRule = (word : ℕ) (place : ValuePlace T) (seats : List LockSeat) (seat : ℕ) (s : LockSeat) (value : T)
      → SeatsRule word place seats → get_elem? seats seat ≡ some s → s.has_slot ≡ true
      → MayPutBack s.view (first_note value) (second_note value)
      → SeatsRule 0 (some (Some value)) (slice_set seats seat (without_slot (put_back (first_note value) (second_note value) s.view)))

  -- an owner that is outside takes in another that is outside, which leaves a seat that owns nothing
  abbrev pub JoinKeepsLockRule : Type 0
  JoinKeepsLockRule = (word : ℕ) (place : ValuePlace T) (seats : List LockSeat) (seat other : ℕ) (s o : LockSeat)
      → SeatsRule word place seats → get_elem? seats seat ≡ some s → s.view.taken ≡ None
      → other ≢ seat → get_elem? seats other ≡ some o → o.view.taken ≡ None
      → SeatsRule word place (slice_set (slice_set seats seat (without_slot (joined_owner s.view o.view))) other (without_slot nobody))

  -- where one seat has taken, the word is 1, no other seat has, and what any owner knows of its number is what was taken
  abbrev pub OneIsInside : Type 0
  OneIsInside = (word : ℕ) (place : ValuePlace T) (seats : List LockSeat) (seat other : ℕ) (s o : LockSeat) (first second : List ℕ)
      → SeatsRule word place seats → get_elem? seats seat ≡ some s → s.view.taken ≡ Some (first, second) → get_elem? seats other ≡ some o
      → (word ≡ 1) × (has_taken o ≡ true → other ≡ seat) × AgreesWithNotes o.view first second
