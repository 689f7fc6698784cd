-- Each step of a member keeps the rule of the reactor lock's queue.
use Rattle.std.proofs.Common.{◌≡◌, ℕ, suc, Bool, true, false, List, [], ◌∷◌, length, refl, None, ap, subst, sym, arith}
use mathlib.Core.Option.{some}
use lib.ListN.{get_elem?}
use Rattle.atomic_table.specs.Seated.{TableId}
use Rattle.crossbeam_queue.specs.Fifo.{Pushes, Pops, Forks, Learns}
use Rattle.aio_rules.specs.declared.claims.ClaimView.{ClaimView}
use Rattle.aio_rules.specs.RoundLock.{RoundLockRule, about_of, holding, knowing, next_claim, released, split_claim}
use Rattle.aio_rules.specs.RoundLockLaws.{MayBePushed}
use Rattle.aio_rules.proofs.RoundLockSteps.{claim_opens, claim_pops, claim_pushes, claim_makes, claim_finds_none}
use Rattle.aio_shared.specs.Cells.{CellValue, CellSays, IsIdle, MayTell, said_by}
use Rattle.aio_shared.specs.OneCell.{PopsCell}

by_bool : (F : Bool → Type 0) → F true → F false → (b : Bool) → F b
by_bool F t f true = t
by_bool F t f false = f

module _ {W : Type 0} where
  abbrev pub Rule : List (CellValue W) → List (ClaimView TableId) → Type 0
  Rule = RoundLockRule CellSays IsIdle

  -- a member that finds a cell in the queue holds none
  held_none : (x : CellValue W) (items : List (CellValue W)) (claims : List (ClaimView TableId)) (id : ℕ) (v : ClaimView TableId)
      → Rule (x ∷ items) claims → get_elem? claims id ≡ some v → v.holds ≡ false
  held_none x items claims id v rule stands =
      by_bool (λ holds. v.holds ≡ holds → v.holds ≡ false)
      (λ holds. let none = claim_finds_none CellSays IsIdle (x ∷ items) claims id v rule stands holds in let count : suc (length items) ≡ 0 = ap length none in absurd (omega arith))
      (λ not_held. not_held) v.holds refl

  pub pops : (id : ℕ) (v : ClaimView TableId) → Pops Rule id v (λ x w. PopsCell v x w)
  pops id v x items claims rule stands =
      let done = claim_pops CellSays IsIdle x items claims id v rule stands in
      (holding v, done.1, (held_none x items claims id v rule stands, refl, done.0))

  pub pushes : (n id : ℕ) (v : ClaimView TableId) (x : CellValue W) → v.holds ≡ true → v.opening ≡ false → MayBePushed CellSays IsIdle x (about_of v) → Pushes Rule n id v x (λ w. w ≡ released v)
  pushes n id v x holds begun may items claims room rule stands = (released v, claim_pushes CellSays IsIdle items claims id v x rule stands holds begun may, refl)

  pub finds_none : (id : ℕ) (v : ClaimView TableId) → v.holds ≡ true → Learns Rule id v (λ items. items ≡ [])
  finds_none id v holds items claims rule stands = claim_finds_none CellSays IsIdle items claims id v rule stands holds

  -- a cell that tells no fault says what a reactor that is sure of its arms, or not, says of it
  says_so : (arms : Bool) (x : CellValue W) → x.round.fault ≡ None → CellSays x (said_by arms x)
  says_so arms x none = record { words = refl; wait = refl; fault = subst (λ f. MayTell x.sure arms f) (sym none) tt }

  pub opens : (arms : Bool) (n id : ℕ) (v : ClaimView TableId) (x : CellValue W) → v.opening ≡ true → IsIdle x → x.round.fault ≡ None → Pushes Rule n id v x (λ w. w ≡ knowing (said_by arms x))
  opens arms n id v x first idle none items claims room rule stands =
      (knowing (said_by arms x), claim_opens CellSays IsIdle items claims id v x (said_by arms x) rule stands first (idle, says_so arms x none), refl)

  pub makes : (id : ℕ) (v : ClaimView TableId) → v.opening ≡ false → Forks Rule id v (split_claim v) (next_claim v)
  makes id v begun items claims rule stands = claim_makes CellSays IsIdle items claims id v rule stands begun
