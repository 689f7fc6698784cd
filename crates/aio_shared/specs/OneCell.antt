-- What contracts see of a member at the reactor lock.
use Rattle.std.specs.Prelude.{◌≡◌, ℕ, ◌+◌, ◌≤◌, Bool, true, false, List, [], ◌∷◌, ◌++◌}
use Rattle.atomic_table.specs.Seated.{TableId}
use Rattle.aio_rules.specs.declared.claims.ClaimView.{ClaimView}
use Rattle.aio_base.specs.Devices.{raised}
use Rattle.aio_rules.specs.RoundLock.{About, about_of, holding}
use Rattle.aio_rules.specs.RoundLockLaws.{MayBePushed}
use Rattle.aio_shared.specs.Cells.{CellValue, CellSays, IsIdle}

-- A member at the reactor lock: which lock, whether it holds the round cell, and what it knows of the cell; then how many of its pops found none, how
-- many members were split off it, and which of all members it is itself.
pub record ClaimValue : Type 0 where
  pub lock : TableId
  pub holds : Bool
  pub words : TableId
  pub sure_of_wait : Bool
  pub sure_of_arms : Bool
  pub empties : ℕ
  pub splits : ℕ
  pub lineage : List ℕ

-- a member of this lock that knows this, with this count of pops that found none
abbrev pub claim_of : TableId → ClaimView TableId → ℕ → ClaimValue
claim_of lock knows empties = record {
  lock = lock;
  holds = knows.holds;
  words = knows.words;
  sure_of_wait = knows.sure_of_wait;
  sure_of_arms = knows.sure_of_arms;
  empties = empties;
  splits = knows.splits;
  lineage = knows.lineage;
}

abbrev pub about : ClaimValue → About TableId
about claim = record { words = claim.words; sure_of_wait = claim.sure_of_wait; sure_of_arms = claim.sure_of_arms }

-- the same member with another count of pops that found none
abbrev pub with_empties : ℕ → ClaimValue → ClaimValue
with_empties empties claim = record claim { empties = empties }

-- the member that is split off this one next: it holds no cell, none of its pops has found none, and none was split off it
abbrev pub new_claim : ClaimValue → ClaimValue
new_claim claim = record claim { holds = false; empties = 0; splits = 0; lineage = claim.lineage ++ claim.splits ∷ [] }

-- what such a split leaves of the member
abbrev pub makes_claim : ClaimValue → ClaimValue
makes_claim claim = record claim { splits = claim.splits + 1 }

-- the first member of a lock, whose cell says this
abbrev pub first_claim : TableId → About TableId → ClaimValue
first_claim lock all = record {
  lock = lock;
  holds = false;
  words = all.words;
  sure_of_wait = all.sure_of_wait;
  sure_of_arms = all.sure_of_arms;
  empties = 0;
  splits = 0;
  lineage = [];
}

-- the member of the first seat before there is a cell names no words
abbrev pub no_words : TableId
no_words = record { words = 0; slots = 0; views_name = 0; atom = 0; block = 0; offset = 0; slot_names = [] }

module _ {W : Type 0} where
  -- a pop that gives: the member, which did not hold the cell, holds it now; it is idle and says what the member knows
  abbrev pub PopsCell : ClaimView TableId → CellValue W → ClaimView TableId → Type 0
  PopsCell knows cell after = (knows.holds ≡ false) × (after ≡ holding knows) × MayBePushed CellSays IsIdle cell (about_of knows)

  -- The cell is one that this member may hold: it says what the member knows.
  abbrev pub IsCellOf : ClaimValue → CellValue W → Type 0
  IsCellOf claim cell = CellSays cell (about claim)

  -- The member, which did not hold the cell before, holds it now; its seat is idle and it says what the member knows.
  pub record TakesCell (old new : ClaimValue) (cell : CellValue W) : Type 0 where
    pub before : old.holds ≡ false
    pub claim : new ≡ record old { holds = true }
    pub idle : IsIdle cell
    pub says : IsCellOf old cell

  -- The member holds the cell, after any number of pops that found none.
  pub record Takes (old new : ClaimValue) (cell : CellValue W) : Type 0 where
    pub last : ClaimValue
    pub waited : last ≡ record old { empties = last.empties }
    pub empties : old.empties ≤ last.empties
    pub takes : TakesCell last new cell

-- A pop of the member found none, which it counted.
pub record FindsNone (old new : ClaimValue) : Type 0 where
  pub claim : new ≡ record old { empties = new.empties }
  pub counted : new.empties ≡ raised old.empties
  pub later : old.empties ≤ new.empties
