-- Which bytes stand for a block that is held, and what comes of a step.
use Rattle.std.specs.Prelude.{◌≡◌, ℕ, ◌≤◌, ◌==◌, if◌then◌else◌, List, [], ◌++◌, Option, None, Some, Result, Ok, Err, codes, decimal}
use Rattle.aio_base.specs.declared.steps.Step.{Step}
use Rattle.aio_base.specs.Text.{ended_line}
use Rattle.aio_base.specs.Trace.{line_limit}
use Rattle.aio_replay.specs.declared.answerer.Gathered.{Gathered}
use Rattle.aio_replay.specs.Answering.{AnswerRules}
use Rattle.aio_tasks.specs.Lines2.{repeat_limit, written_line2}
use Rattle.aio_tasks.specs.Migrating.{Block, plain_line}
use Rattle.aio_migrate.specs.declared.blocks.Migrator.{Migrator}
use Rattle.aio_migrate.specs.Migration.{migration, passed}

-- the line of its step, with its line feed, and how often the step came
abbrev pub HoldsBlock : Migrator → Option Block → Type 0
HoldsBlock m None = m.times ≡ 0
HoldsBlock m (Some b) = (m.times ≡ b.times) × (1 ≤ b.times) × (m.line.items ≡ ended_line (written_line2 (plain_line b.step)))

abbrev pub migrator_rules : AnswerRules Migrator
migrator_rules = record {
  State = Option Block;
  language = migration;
  stands = HoldsBlock;
  most = line_limit;
  within = λ line m. m.times ≤ repeat_limit;
}

-- a line, and in front of it one that repeats it, where it comes more than once
abbrev pub repeated_text : List ℕ → ℕ → List ℕ
repeated_text line times = (if times == 1 then [] else ended_line (codes "repeat " ++ decimal times)) ++ line

-- whatever was held, the text has grown by what the step brings out, and that is held which it leaves; or memory ran out, and the text has not changed
abbrev pub Passes : {E : Type 0} → Gathered Migrator → Step → Result (Unit {0}) E → Gathered Migrator → Type 0
Passes old t (Ok done) new = (held : Option Block) → HoldsBlock old.answerer held
    → (new.text.items ≡ old.text.items ++ (passed held t).0) × HoldsBlock new.answerer (passed held t).1
Passes old t (Err e) new = new.text.items ≡ old.text.items
