-- Cells whose steps were made by two jobs, and what both together come to.
use Rattle.std.specs.Prelude.{◌≡◌, ℕ, suc, ◌+◌, ◌*◌, Bool, true, false, if◌then◌else◌, List, [], ◌∷◌, ◌++◌, length, map, reverse, ⊤}
use Rattle.aio_history.specs.declared.steps.CellCall.{CellCall}
use Rattle.aio_history.specs.declared.steps.CellStep.{CellStep}
use Rattle.aio_history.specs.Histories.{Replays, call_of}
use Rattle.aio_history.specs.DrawnCalls.{drawn_calls}
use Rattle.aio_record.specs.Recording.{RecordedValue, first_recorded}
use Rattle.aio_record.specs.declared.stress_cell.Maker.{Maker}
use Rattle.aio_record.specs.declared.stress_cell.Maker.TheVariants.{First, Second}

-- a cell, and the maker of each of its steps
pub record StressValue : Type 0 where
  pub cell : RecordedValue
  pub makers : List Maker

abbrev pub first_stressed : StressValue
first_stressed = record { cell = first_recorded; makers = [] }

abbrev pub number_of : Maker → ℕ
number_of First = 0
number_of Second = 1

abbrev pub same_maker : Maker → Maker → Bool
same_maker First First = true
same_maker First Second = false
same_maker Second First = false
same_maker Second Second = true

abbrev pub other : Maker → Maker
other First = Second
other Second = First

-- those of the steps that one of the jobs made, in order
abbrev pub steps_by : Maker → List Maker → List CellStep → List CellStep
steps_by maker [] steps = []
steps_by maker (m ∷ makers) [] = []
steps_by maker (m ∷ makers) (s ∷ steps) = if same_maker m maker then s ∷ steps_by maker makers steps else steps_by maker makers steps

abbrev pub steps_of : Maker → StressValue → List CellStep
steps_of maker c = steps_by maker c.makers c.cell.steps

-- the steps replay, and each has one maker
pub record IsWhole (c : StressValue) : Type 0 where
  pub replays : Replays (reverse c.cell.steps)
  pub marked : length c.makers ≡ length c.cell.steps

-- A call that a job made: its step came behind the job's own, and those of the other stayed.
pub record Made (maker : Maker) (call : CellCall) (step : CellStep) (old new : StressValue) : Type 0 where
  pub call_is : call_of step ≡ call
  pub own : steps_of maker new ≡ steps_of maker old ++ step ∷ []
  pub others : steps_of (other maker) new ≡ steps_of (other maker) old

-- ## What the two jobs come to

-- A cell after both jobs: the calls of each are exactly those that are drawn for the cell, and its steps replay.
pub record HasDrawn (calls seed cell : ℕ) (c : StressValue) : Type 0 where
  pub first : map call_of (steps_of First c) ≡ drawn_calls seed calls cell
  pub second : map call_of (steps_of Second c) ≡ drawn_calls (seed + 1) calls cell
  pub whole : IsWhole c

-- the same of each cell, by its number
abbrev pub EachHasDrawn : ℕ → ℕ → ℕ → List StressValue → Type 0
EachHasDrawn calls seed cell [] = ⊤
EachHasDrawn calls seed cell (c ∷ cells) = HasDrawn calls seed cell c × EachHasDrawn calls seed (suc cell) cells

-- how many steps the cells have together
abbrev pub steps_in : List StressValue → ℕ
steps_in [] = 0
steps_in (c ∷ cells) = length c.cell.steps + steps_in cells

-- the eight cells of two jobs that made so many calls each
pub record Stressed (calls seed : ℕ) (cells : List StressValue) : Type 0 where
  pub drawn : EachHasDrawn calls seed 0 cells
  pub eight : length cells ≡ 8
  pub in_all : steps_in cells ≡ 2 * calls
