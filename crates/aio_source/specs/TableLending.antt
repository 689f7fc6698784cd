-- A thing of a table is lent to be changed.
use Rattle.std.specs.Prelude.{ℕ, List, Option, Some, slice_set}
use Rattle.std.specs.Borrow.{LendsIf, Fml, RattleType, MutBor}
use Rattle.aio_source.specs.contracts.key_table.KeyTable.{the_row}

module _ (T : RattleType) (table : MutBor (List (Option T.Denot))) (key : ℕ) where
  -- the key has what was written last once the loan ends; where nothing was lent all stays
  abbrev pub lends_at : Option (MutBor T.Denot) → Fml
  lends_at lent = LendsIf (the_row T) T table lent (λ x. slice_set table.now key (Some x)) table.now
