-- What becomes of the connections with which a table starts.
use Rattle.std.specs.Prelude.{◌≡◌, ℕ, Bool, List, [], ◌∷◌, Result, Ok, Err}
use Rattle.atomic_table.specs.Seated.{TableId}
use Rattle.aio_base.specs.declared.outcomes.ArmFault.{ArmFault}
use Rattle.aio_base.specs.declared.outcomes.Failed.{Failed}
use Rattle.aio_base.specs.Devices.{ArmCall}
use Rattle.aio_sources.specs.Sources.{Adds, FailsToAdd, IsLeastFree, SourceRefValue, TableEntry, entry_of, keys_of, outside, with_entry}

module _ {S : Type 0} (step : S → ArmCall → Result (Unit {0}) Failed → S → Type 0) (rest : S → List ℕ) (count : S → ℕ) (is_sure : S → Bool)
    (words : TableId) where
  -- One `add` of a connection was done: it joined under the least free key, by the lock of its token, which knows its rest.
  pub record Starts (entries : List TableEntry) (io : S) (token : SourceRefValue) (after : List TableEntry) : Type 0 where
    pub least : IsLeastFree (keys_of entries) token.key
    pub entries_are : after ≡ with_entry entries (entry_of token)
    pub token_is : token ≡ outside words (entry_of token) (rest io)
    pub adds : Adds step token.key io

  -- One `add` of a connection failed, under the least free key, which stays free.
  pub record FailsToStart (entries : List TableEntry) (io : S) (fault : ArmFault) (after : List TableEntry) : Type 0 where
    pub least : IsLeastFree (keys_of entries) fault.key.0
    pub entries_are : after ≡ entries
    pub back : S
    pub fails : FailsToAdd step rest count is_sure fault.key.0 io back (record { before = fault.before; after = fault.after })

  abbrev pub Begins : List TableEntry → S → Result SourceRefValue ArmFault → List TableEntry → Type 0
  Begins entries io (Ok token) after = Starts entries io token after
  Begins entries io (Err fault) after = FailsToStart entries io fault after

  -- connections in order, each with its answer
  abbrev pub BeginAll : List TableEntry → List S → List (Result SourceRefValue ArmFault) → List TableEntry → Type 0
  BeginAll entries [] [] after = after ≡ entries
  BeginAll entries [] (answer ∷ answers) after = ⊥
  BeginAll entries (io ∷ ios) [] after = ⊥
  BeginAll entries (io ∷ ios) (answer ∷ answers) after = (mid : List TableEntry) × Begins entries io answer mid × BeginAll mid ios answers after

  -- connections with which a reactor began, that had no source before
  abbrev pub BeginsWith : List S → List (Result SourceRefValue ArmFault) → Type 0
  BeginsWith ios answers = (after : List TableEntry) × BeginAll [] ios answers after

-- the entries of the connections that were added, in order
abbrev pub entries_added : List (Result SourceRefValue ArmFault) → List TableEntry
entries_added [] = []
entries_added (Ok token ∷ answers) = entry_of token ∷ entries_added answers
entries_added (Err fault ∷ answers) = entries_added answers
