-- Connections that begin one after another.
use Rattle.std.proofs.Common.{ℕ, Bool, List, [], ◌∷◌, ◌++◌, Result, Ok, Err, sym, subst, append-nil}
use Rattle.std.specs.List.Sorted.{IsPermutation}
use Rattle.std.proofs.lemmas.List.Sorted.{IsPermutation-refl, IsPermutation-trans, IsPermutation-append, IsPermutation-middle, IsPermutation-insert}
use Rattle.atomic_table.specs.Seated.{TableId}
use Rattle.aio_base.specs.declared.outcomes.ArmFault.{ArmFault}
use Rattle.aio_base.specs.declared.outcomes.Failed.{Failed}
use Rattle.aio_base.specs.Devices.{ArmCall}
use Rattle.aio_sources.specs.Sources.{SourceRefValue, TableEntry, entry_of}
use Rattle.aio_sources.specs.Starting.{BeginAll, entries_added}
use Rattle.std.specs.List.{All, Contains}
use Rattle.std.proofs.lemmas.List.Elements.{All-contains, All-contains_itself, All-weaker, Contains-append_left, Contains-push}

-- what holds of each element holds of the last one, and of those before it
pub holds_of_last : {X : Type 0} (P : X → Type 0) (xs : List X) (x : X) → All P (xs ++ x ∷ []) → P x
holds_of_last P xs x all = All-contains P (xs ++ x ∷ []) x all (Contains-push xs x)

pub holds_before : {X : Type 0} (P : X → Type 0) (xs : List X) (x : X) → All P (xs ++ x ∷ []) → All P xs
holds_before P xs x all =
    All-weaker (Contains xs) P (λ y among. All-contains P (xs ++ x ∷ []) y all (Contains-append_left xs (x ∷ []) y among)) xs (All-contains_itself xs)

-- ## The entries of a table to which connections were added

module _ {S : Type 0} (step : S → ArmCall → Result (Unit {0}) Failed → S → Type 0) (rest : S → List ℕ) (count : S → ℕ) (is_sure : S → Bool) (words : TableId) where
  added_to : (entries : List TableEntry) (ios : List S) (answers : List (Result SourceRefValue ArmFault)) (after : List TableEntry)
      → BeginAll step rest count is_sure words entries ios answers after → IsPermutation (entries ++ entries_added answers) after
  added_to entries [] [] after is = rw (append-nil entries, is) (IsPermutation-refl entries)
  added_to entries [] (answer ∷ answers) after is = absurd is
  added_to entries (io ∷ ios) [] after is = absurd is
  added_to entries (io ∷ ios) (Err fault ∷ answers) after (mid, fails, all) =
      subst (λ es. IsPermutation (es ++ entries_added answers) after) fails.entries_are (added_to mid ios answers after all)
  added_to entries (io ∷ ios) (Ok token ∷ answers) after (mid, starts, all) =
      let entry = entry_of token in
      let more = entries_added answers in
      let joined : IsPermutation (entry ∷ entries) mid = subst (IsPermutation (entry ∷ entries)) (sym starts.entries_are) (IsPermutation-insert entries token.key entry) in
      IsPermutation-trans (entries ++ entry ∷ more) (entry ∷ (entries ++ more)) after (IsPermutation-middle entries entry more)
      (IsPermutation-trans (entry ∷ (entries ++ more)) (mid ++ more) after (IsPermutation-append (entry ∷ entries) mid more more joined (IsPermutation-refl more)) (added_to mid ios answers after all))

  pub all_added : (ios : List S) (answers : List (Result SourceRefValue ArmFault)) (after : List TableEntry) → BeginAll step rest count is_sure words [] ios answers after
      → IsPermutation (entries_added answers) after
  all_added ios answers after all = added_to [] ios answers after all
