-- What a job knows of the cells that it shares with the other.
use Rattle.std.specs.Prelude.{◌≡◌, ℕ, suc, List, [], ◌∷◌, ◌++◌, map, ⊤}
use Rattle.atomic_table.specs.Seated.{TableId}
use Rattle.aio_rules.specs.declared.lock_views.LockView.{LockView}
use Rattle.aio_rules.specs.SharedLock.{first_owner, second_owner}
use Rattle.aio_history.specs.declared.steps.CellCall.{CellCall}
use Rattle.aio_history.specs.declared.steps.CellStep.{CellStep}
use Rattle.aio_history.specs.Histories.{call_of}
use Rattle.aio_history.specs.StepNumbers.{step_numbers, numbers_of}
use Rattle.aio_history.specs.DrawnCalls.{calls_from}
use Rattle.aio_record.specs.declared.stress_cell.Maker.{Maker}
use Rattle.aio_record.specs.declared.stress_cell.Maker.TheVariants.{First, Second}
use Rattle.aio_record.specs.Makers.{StressValue, IsWhole, steps_of}

-- the owner of one job's number alone, outside, that knows this note
abbrev pub alone : Maker → List ℕ → LockView
alone First note = first_owner note
alone Second note = second_owner note

abbrev pub note_of : Maker → LockView → List ℕ
note_of First v = v.first
note_of Second v = v.second

-- a desk: its lock, the job that has it, and that job's note as its owner knows it
pub record DeskValue : Type 0 where
  pub lock : TableId
  pub maker : Maker
  pub note : List ℕ

-- A call was made by a desk: its step came behind the note.
pub record NoteGrew (call : CellCall) (step : CellStep) (old new : List ℕ) : Type 0 where
  pub call_is : call_of step ≡ call
  pub note_is : new ≡ old ++ step_numbers step

-- How far a desk is with the calls that it has to make: its note has the steps of the first of them, and the rest is left.
pub record DeskDone (all left : List CellCall) (began now : DeskValue) : Type 0 where
  pub lock : now.lock ≡ began.lock
  pub maker : now.maker ≡ began.maker
  pub steps : List CellStep
  pub note_is : now.note ≡ began.note ++ numbers_of steps
  pub calls_are : map call_of steps ++ left ≡ all

-- the same is true of each desk, of how it began and how it is now, by the number of its cell
abbrev pub EachDesk : (ℕ → DeskValue → DeskValue → Type 0) → ℕ → List DeskValue → List DeskValue → Type 0
EachDesk Holds cell [] [] = ⊤
EachDesk Holds cell [] (y ∷ ys) = ⊥
EachDesk Holds cell (x ∷ xs) [] = ⊥
EachDesk Holds cell (x ∷ xs) (y ∷ ys) = Holds cell x y × EachDesk Holds (suc cell) xs ys

-- A job at work: of its calls, drawn from the state with which it began, so many are left, and this state draws them.
abbrev pub Underway : ℕ → ℕ → ℕ → ℕ → List DeskValue → List DeskValue → Type 0
Underway calls begun left state began now = EachDesk (λ cell. DeskDone (calls_from calls begun cell) (calls_from left state cell)) 0 began now

-- a job at its end: no desk has a call left
abbrev pub Worked : ℕ → ℕ → List DeskValue → List DeskValue → Type 0
Worked calls seed began ended = EachDesk (λ cell. DeskDone (calls_from calls seed cell) []) 0 began ended

-- the desks of both jobs at a new cell
pub record IsFreshPair (a b : DeskValue) : Type 0 where
  pub lock : a.lock ≡ b.lock
  pub first : a.maker ≡ First
  pub second : b.maker ≡ Second
  pub none : a.note ≡ []
  pub none-too : b.note ≡ []

-- the desks of both jobs at one cell
pub record IsPair (a b : DeskValue) : Type 0 where
  pub lock : a.lock ≡ b.lock
  pub first : a.maker ≡ First
  pub second : b.maker ≡ Second

-- the cell of two desks: its steps are those that both know of
pub record IsJoint (a b : DeskValue) (c : StressValue) : Type 0 where
  pub first : numbers_of (steps_of First c) ≡ a.note
  pub second : numbers_of (steps_of Second c) ≡ b.note
  pub whole : IsWhole c

-- the cells of desks in pairs, in order
abbrev pub Joined : List DeskValue → List DeskValue → List StressValue → Type 0
Joined [] [] [] = ⊤
Joined (a ∷ firsts) (b ∷ seconds) (c ∷ cells) = IsJoint a b c × Joined firsts seconds cells
Joined [] [] (c ∷ cells) = ⊥
Joined [] (b ∷ seconds) cells = ⊥
Joined (a ∷ firsts) [] cells = ⊥
Joined (a ∷ firsts) (b ∷ seconds) [] = ⊥
