-- The first version refuses a line of more than 256 bytes for its length, and its inputs may all have as many lines.
use Rattle.std.specs.Prelude.{◌≡◌, ℕ, ◌<◌, Bool, ◌&&◌, if◌then◌else◌, List, length, Option, Some, Err, bytes_eq}
use Rattle.std.specs.List.{list_all}
use Rattle.std.specs.Result.{result_err}
use Rattle.std.specs.Cmp.Lexicographic.{pointwise}
use Rattle.std.proofs.Common.{ap, refl}
use Rattle.std.proofs.lemmas.Bool.{lt-leb, lt-ltb}
use Rattle.aio_base.specs.declared.steps.LineFault.{LineFault}
use Rattle.aio_base.specs.declared.steps.LineFault.TheVariants as fault
use Rattle.aio_base.specs.Lines.{body_of, fault_of, first, is_allowed, line_bytes, step_read, words_in, words_read}
use Rattle.aio_base.specs.Trace.{header_words}
use Rattle.aio_replay.specs.Language.{LanguageRules, first_header, first_reply, first_version}

pub fault_of_long : (bytes : List ℕ) → 256 < length bytes → fault_of bytes ≡ Some fault.Long
unfolding fault_of
fault_of_long bytes long =
    ap (λ (t : Bool). result_err (if t then Err fault.Long
    else (if list_all is_allowed (body_of bytes) then words_read first (words_in (body_of bytes)) else Err fault.Byte))) (lt-ltb line_bytes (length bytes) long)

pub first_language_rules : LanguageRules first_version
first_language_rules = record {
  too_long = λ w bytes long. ap (λ (f : Option LineFault). first_reply w f (step_read bytes)) (fault_of_long bytes long);
  no_header = λ bytes long. ap (λ (t : Bool). first_header (t && pointwise bytes_eq (words_in (body_of bytes)) header_words)) (lt-leb (length bytes) line_bytes long);
  same_limit = λ w bytes text v is. refl;
}
