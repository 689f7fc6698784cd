-- The language refuses a line of more than 256 bytes for its length, and has one number of lines.
use Rattle.std.specs.Prelude.{Bool, ◌&&◌, Option, bytes_eq}
use Rattle.std.specs.Cmp.Lexicographic.{pointwise}
use Rattle.std.proofs.Common.{ap, length, refl}
use Rattle.std.proofs.lemmas.Bool.{lt-leb}
use Rattle.aio_base.specs.declared.steps.LineFault.{LineFault}
use Rattle.aio_base.specs.Lines.{body_of, line_bytes, step_read, words_in}
use Rattle.aio_base.specs.Trace.{header_words}
use Rattle.aio_replay.specs.Language.{LanguageRules}
use Rattle.aio_replay.specs.LongLines.{fault_of_long}
use Rattle.aio_migrate.specs.Migration.{migrate_header, migrate_reply, migration}

pub migration_language_rules : LanguageRules migration
migration_language_rules = record {
  too_long = λ held bytes long. ap (λ (f : Option LineFault). migrate_reply held f (step_read bytes)) (fault_of_long bytes long);
  no_header = λ bytes long. ap (λ (t : Bool). migrate_header (t && pointwise bytes_eq (words_in (body_of bytes)) header_words)) (lt-leb (length bytes) line_bytes long);
  same_limit = λ held bytes text after is. refl;
}
