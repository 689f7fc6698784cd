-- What contracts see of the sources of a reactor, and what the calls on them say.
use Rattle.std.specs.Prelude.{◌≡◌, ℕ, suc, ◌<◌, Bool, true, false, not, ◌==◌, List, [], ◌∷◌, filter, drop, Option, None, Some, IfErr, Result, Ok, Err}
use Rattle.std.specs.List.{Contains, insert}
use Rattle.atomic_table.specs.Seated.{TableId}
use Rattle.aio_base.specs.declared.names.Key.{Key}
use Rattle.aio_base.specs.declared.outcomes.CountFault.{CountFault}
use Rattle.aio_base.specs.declared.outcomes.Failed.{Failed}
use Rattle.aio_rules.specs.declared.lock_views.LockView.{LockView}
use Rattle.aio_base.specs.Devices.{ArmCall, AddOf, RemoveOf, Rose}
use Rattle.aio_rules.specs.SharedLock.{taken_second}
use Rattle.aio_words.specs.Calls.{uncounted}
use Rattle.aio_sources.specs.declared.sources.InsertFault.{InsertFault}
use Rattle.aio_sources.specs.declared.sources.InsertFault.TheVariants.{Full, AddFault, OutOfMemory}

-- ## The table

-- a source of a table: its key, and the lock in which it lies
pub record TableEntry : Type 0 where
  pub key : ℕ
  pub lock : TableId

-- the locks of these places, where the first place has this key: their keys rise
abbrev pub entries_from : ℕ → List (Option TableId) → List TableEntry
entries_from first [] = []
entries_from first (None ∷ places) = entries_from (suc first) places
entries_from first (Some lock ∷ places) = record { key = first; lock = lock } ∷ entries_from (suc first) places

abbrev pub keys_of : List TableEntry → List ℕ
keys_of [] = []
keys_of (entry ∷ entries) = entry.key ∷ keys_of entries

-- a key that is not in a list, while each lesser one is
pub record IsLeastFree (keys : List ℕ) (key : ℕ) : Type 0 where
  pub free : Contains keys key → ⊥
  pub least : (lesser : ℕ) → lesser < key → Contains keys lesser

-- a table whose keys rise, with an entry under its least free key: before it are all lesser ones, so many as it says
abbrev pub with_entry : List TableEntry → TableEntry → List TableEntry
with_entry entries entry = insert entries entry.key entry

abbrev pub without_entry : List TableEntry → ℕ → List TableEntry
without_entry entries key = filter (λ entry. not (entry.key == key)) entries

-- ## The token of a source

-- the token of a source: the words of the reactor to which it belongs, the key, the lock of the source, whether it has taken the source out of its
-- lock, the rest of the source's connection, how many visits it made of the source, and how often it handed the source out
pub record SourceRefValue : Type 0 where
  pub words : TableId
  pub key : ℕ
  pub lock : TableId
  pub inside : Bool
  pub rest : List ℕ
  pub visits : ℕ
  pub taken : ℕ

-- a token that has not taken its source, and never had
abbrev pub outside : TableId → TableEntry → List ℕ → SourceRefValue
outside words entry rest = record { words = words; key = entry.key; lock = entry.lock; inside = false; rest = rest; visits = 0; taken = 0 }

-- the entry of the source of a token
abbrev pub entry_of : SourceRefValue → TableEntry
entry_of token = record { key = token.key; lock = token.lock }

-- the rest of the connection, behind the key in the note of a source
abbrev pub rest_of : LockView → List ℕ
rest_of knows = drop 1 knows.first

-- What the owner in the token of this key knows: it owns the first number alone, whose note begins with the key; the second note is empty.
pub record IsSourceOwner (key : ℕ) (knows : LockView) : Type 0 where
  pub owns_first : knows.owns_first ≡ true
  pub owns_second : knows.owns_second ≡ false
  pub first : knows.first ≡ key ∷ rest_of knows
  pub second : taken_second knows ≡ []

-- what a closed source leaves: its key, and the rest of its connection
pub record ClosedValue : Type 0 where
  pub key : ℕ
  pub rest : List ℕ

-- ## Inserting a source

-- the sources of a reactor, as whoever has the table sees them: the words of the reactor, and the keys and locks of the sources, whose keys rise
pub record SourcesValue : Type 0 where
  pub words : TableId
  pub entries : List TableEntry

-- the source of this token joined them under the least free key: the lock at that key is the token's
pub record Joins (old : SourcesValue) (token : SourceRefValue) (new : SourcesValue) : Type 0 where
  pub key_is : IsLeastFree (keys_of old.entries) token.key
  pub entries : new.entries ≡ with_entry old.entries (entry_of token)
  pub words : new.words ≡ old.words

-- why an insert was refused
abbrev pub refusal_of : {R S : Type 0} → Result R (S × InsertFault) → Option InsertFault
refusal_of (Ok token) = None
refusal_of (Err (back, refusal)) = Some refusal

-- it was refused since 4,096 sources live
abbrev pub is_full : Option InsertFault → Bool
is_full None = false
is_full (Some (Full table)) = true
is_full (Some (AddFault fault)) = false
is_full (Some OutOfMemory) = false

module _ {S : Type 0} (step : S → ArmCall → Result (Unit {0}) Failed → S → Type 0) where
  -- this connection became that one by one `add` of this key, which was done
  abbrev pub AddedAs : Key → S → S → Type 0
  AddedAs key io after = step io (AddOf key) (Ok tt) after

  -- one `add` of this key was made on a connection, and was done
  pub record Adds (key : ℕ) (io : S) : Type 0 where
    pub after : S
    pub added : AddedAs (record { 0 = key }) io after

  module _ (rest : S → List ℕ) (count : S → ℕ) (is_sure : S → Bool) where
    -- One `add` of this key was made on a connection, and failed: it comes back with the same rest, its count of faults rose, and the fault tells
    -- the two counts.
    pub record FailsToAdd (key : ℕ) (io back : S) (fault : CountFault) : Type 0 where
      pub failed : step io (AddOf (record { 0 = key })) (Err (record {})) back
      pub counts : fault ≡ record { before = count io; after = count back }
      pub rose : Rose (count io) (count back)
      pub unsure : is_sure io ≡ false
      pub stays : rest back ≡ rest io

    -- A refusal hands the connection back: untouched, but where its `add` failed.
    abbrev pub HandsBack : List ℕ → S → S × InsertFault → Type 0
    HandsBack keys io (back, AddFault fault) = (key : ℕ) × IsLeastFree keys key × FailsToAdd key io back fault
    HandsBack keys io (back, Full table) = back ≡ io
    HandsBack keys io (back, OutOfMemory) = back ≡ io

  module _ (rest : S → List ℕ) (count : S → ℕ) where
    -- One `remove` of this key was made on a connection with this rest, and answered so. A fault tells the two counts of faults.
    pub record Removes (key : ℕ) (known : List ℕ) (answer : Result (Unit {0}) CountFault) : Type 0 where
      pub io : S
      pub after : S
      pub rest_is : rest io ≡ known
      pub removed : step io (RemoveOf (record { 0 = key })) (uncounted answer) after
      pub counts : IfErr answer (λ (fault : CountFault). fault ≡ record { before = count io; after = count after })

-- a fault of a reactor that is not sure of its arms: the count of faults rose from the one number to the other
abbrev pub IsUnsure : Bool → CountFault → Type 0
IsUnsure all_sure fault = (all_sure ≡ false) × Rose fault.before fault.after
