-- How a value answers the lines of a language.
use Rattle.std.specs.Prelude.{◌≡◌, ℕ, ◌≤◌, List, ◌++◌, Result, Ok, Err}
use Rattle.aio_replay.specs.declared.answerer.Unanswered.{Unanswered}
use Rattle.aio_replay.specs.declared.answerer.Unanswered.TheVariants as unanswered
use Rattle.aio_replay.specs.Language.{Language, Reply}

-- Its states and the language over them; which state a value stands for; a number of lines that no input passes, whatever its header says; and what
-- bounds the counts of a value before the line of a number is answered, whatever it stands for.
pub record AnswerRules (A : Type 0) : Type 1 where
  pub State : Type 0
  pub language : Language State
  pub stands : A → State → Type 0
  pub most : ℕ
  pub within : ℕ → A → Type 0

-- one more line may be answered
pub record IsReady {A : Type 0} (r : AnswerRules A) (a : A) : Type 0 where
  pub line : ℕ
  pub few : line ≤ r.most
  pub within : r.within line a

-- a line is answered so: its text stands behind that of the lines before it, and the value stands for the state behind it
pub record Replied {A : Type 0} (r : AnswerRules A) (reply : Reply r.State) (text_old text_new : List ℕ) (new : A) : Type 0 where
  pub added : List ℕ
  pub state : r.State
  pub is : reply ≡ Ok (added, state)
  pub text : text_new ≡ text_old ++ added
  pub stands : r.stands new state

-- What a line came to: it was answered, from whatever state the value stood for; or it is refused, and nothing has changed; or memory ran out, and
-- the text is as it was.
abbrev pub AnswersLine : {A : Type 0} → AnswerRules A → List ℕ → Result (Unit {0}) Unanswered → A → A → List ℕ → List ℕ → Type 0
AnswersLine r line (Ok done) old new text_old text_new = (s : r.State) → r.stands old s → Replied r (r.language.line s line) text_old text_new new
AnswersLine r line (Err (unanswered.Refused why)) old new text_old text_new =
    (new ≡ old) × (text_new ≡ text_old) × ((s : r.State) → r.stands old s → r.language.line s line ≡ Err why)
AnswersLine r line (Err unanswered.OutOfMemory) old new text_old text_new = text_new ≡ text_old

-- What the first line came to, by the same cases. It is read in the opening state alone.
abbrev pub AnswersHeader : {A : Type 0} → AnswerRules A → List ℕ → Result (Unit {0}) Unanswered → A → A → List ℕ → List ℕ → Type 0
AnswersHeader r line (Ok done) old new text_old text_new = r.stands old r.language.opening → Replied r (r.language.header line) text_old text_new new
AnswersHeader r line (Err (unanswered.Refused why)) old new text_old text_new = (new ≡ old) × (text_new ≡ text_old) × (r.language.header line ≡ Err why)
AnswersHeader r line (Err unanswered.OutOfMemory) old new text_old text_new = text_new ≡ text_old
