-- What the end of the driver says, of what an input comes to where it is written in the second version.
use Rattle.std.proofs.Common.{◌≡◌, ℕ, ◌+◌, ◌*◌, ◌≤◌, true, false, Bool, List, [], ◌∷◌, ◌++◌, Option, None, Some, sym, subst, ◌∙◌, arith}
use Rattle.std.specs.Io.KnownBytes.{Appends}
use Rattle.aio_base.specs.Trace.{Refusal, is_header, line_limit, lines_of}
use Rattle.aio_bytes.specs.Sinks.{AppendsPart}
use Rattle.aio_bytes.specs.Unread.{LeavesAllBut}
use Rattle.aio_replay.specs.declared.ends.Stop.{Stop}
use Rattle.aio_replay.specs.Driving.{StoppedBehind, ToldWhole, most_bytes}
use Rattle.aio_replay.specs.Language.{limit_behind, lines_in}
use Rattle.aio_replay.proofs.DrivingLemmas.{written_of_more}
use Rattle.aio_replay.proofs.StepLemmas.{leaves_more}
use Rattle.aio_migrate.specs.declared.blocks.Migrator.{Migrator}
use Rattle.aio_migrate.specs.MigratedInputs.{migrated_input}
use Rattle.aio_migrate.specs.Migration.{migrate_header, migration}
use Rattle.aio_migrate.specs.Migrators.{migrator_rules}
use Rattle.aio_migrate.proofs.MigrationText.{migration_tells}

-- where the lines were answered, except those from one on that is refused: the whole text is written
pub whole_told : (refusal : Option Refusal) (bytes : List ℕ) (old new : Option (List ℕ)) (m : Migrator) → ToldWhole migrator_rules refusal bytes old new m
    → ((migrated_input bytes).refusal ≡ refusal) × Appends old new (migrated_input bytes).text
whole_told refusal bytes old new m t = (sym (migration_tells bytes).0 ∙ t.refusal_is, subst (Appends old new) (migration_tells bytes).1 t.written)

-- where it stopped before, the output grew by a front part of the text
pub part_told : (s : Stop) (bytes : List ℕ) (old new : Option (List ℕ)) (m : Migrator) → StoppedBehind migrator_rules s bytes old new m → AppendsPart old new (migrated_input bytes).text
part_told s bytes old new m b = subst (AppendsPart old new) (sym b.whole ∙ (migration_tells bytes).1) (written_of_more s.sent old new (b.text ++ b.held) b.left b.written)

lines_headed : (headed : Bool) → limit_behind migration (migrate_header headed) ≤ line_limit
lines_headed true = omega arith
lines_headed false = omega arith

lines_few : (lines : List (List ℕ)) → lines_in migration lines ≤ line_limit
lines_few [] = omega arith
lines_few (header ∷ lines) = lines_headed (is_header header)

pub takes_few : (now : Option (List ℕ)) (bytes : List ℕ) → LeavesAllBut (most_bytes (lines_in migration (lines_of bytes))) now bytes → LeavesAllBut (most_bytes line_limit) now bytes
takes_few now bytes taken = leaves_more (257 * (lines_in migration (lines_of bytes) + 1)) (257 * (line_limit + 1)) now bytes (omega (arith, lines_few (lines_of bytes))) taken
