-- The text in the second version of steps of a trace of the first.
use Rattle.std.specs.Prelude.{ℕ, zero, suc, ◌+◌, ◌-◌, ◌/◌, ◌%◌, ◌==◌, Bool, if◌then◌else◌, List, [], ◌∷◌, ◌++◌, flat_map, codes, bytes_eq}
use Rattle.aio_base.specs.declared.steps.Step.{Step}
use Rattle.aio_base.specs.Text.{ended_line}
use Rattle.aio_tasks.specs.declared.steps.Line2.{Line2}
use Rattle.aio_tasks.specs.declared.steps.Line2.TheVariants as line
use Rattle.aio_tasks.specs.declared.steps.Step2.TheVariants as step2
use Rattle.aio_tasks.specs.Lines2.{repeat_limit, written_line2}

abbrev pub plain_line : Step → Line2
plain_line s = line.Step (step2.Plain s)

-- a step, and how often it comes in a row
pub record Block : Type 0 where
  pub step : Step
  pub times : ℕ

-- whether two steps are equal, as their written lines tell
abbrev pub same_step : Step → Step → Bool
same_step s t = bytes_eq (written_line2 (plain_line s)) (written_line2 (plain_line t))

abbrev pub onto_block : Step → List Block → List Block
onto_block s [] = record { step = s; times = 1 } ∷ []
onto_block s (b ∷ blocks) = if same_step s b.step then record { step = s; times = b.times + 1 } ∷ blocks else record { step = s; times = 1 } ∷ b ∷ blocks

-- steps in blocks: each is as long a row of equal steps as there is
abbrev pub blocks_of : List Step → List Block
blocks_of [] = []
blocks_of (s ∷ steps) = onto_block s (blocks_of steps)

-- one step, with a line in front that says how often, where that is more than once
abbrev pub repeated : Step → ℕ → List Line2
repeated s times = if times == 1 then plain_line s ∷ [] else line.Repeat times ∷ plain_line s ∷ []

-- so many times the most that one line may repeat
abbrev pub full_parts : Step → ℕ → List Line2
full_parts s zero = []
full_parts s (suc parts) = repeated s repeat_limit ++ full_parts s parts

-- the lines of a block: that much at a time while more is left, and then the rest, which is once at least
abbrev pub block_lines : Block → List Line2
block_lines b = full_parts b.step ((b.times - 1) / repeat_limit) ++ repeated b.step ((b.times - 1) % repeat_limit + 1)

abbrev pub migrated_lines : List Step → List Line2
migrated_lines steps = flat_map block_lines (blocks_of steps)

abbrev pub header2 : List ℕ
header2 = codes "trace 2"

abbrev pub lines_text : List Line2 → List ℕ
lines_text ms = flat_map (λ (m : Line2). ended_line (written_line2 m)) ms

-- these steps as a whole text of the second version
unfoldable pub migrated : List Step → List ℕ
migrated steps = ended_line header2 ++ lines_text (migrated_lines steps)
