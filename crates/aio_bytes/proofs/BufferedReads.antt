-- A read that finds bytes in the buffer of a reader.
use Rattle.std.proofs.Common.{◌≡◌, ℕ, ◌<◌, ◌==◌, min, List, ◌++◌, length, take, drop, Bool, true, false, Option, None, Some, Ok, sym, ap, ◌∙◌, subst, arith}
use Rattle.std.proofs.lemmas.List.{append_assoc, drop_min, length-take, take-append-drop, take_min}
use Rattle.std.specs.Prelude.{if◌then◌else◌}
use Rattle.std.specs.Io.Buffered.{reader_buffer, reader_capacity, reader_inner, reader_remaining}
use Rattle.std.specs.Io.KnownBytes.{Consumes, prepend_known}
use Rattle.std.specs.declared.io.buffered.BufReader.{BufReader}
use Rattle.aio_bytes.specs.Adapters.{Adapter, ReadsBuffered}

-- the bytes of a buffer and those behind it, where the buffer has any room
abbrev shown : Bool → List ℕ → Option (List ℕ) → Option (List ℕ)
shown is_none ahead behind = if is_none then None else prepend_known ahead behind

consumed : (is_none : Bool) (ahead : List ℕ) (behind : Option (List ℕ)) (n : ℕ) → Consumes (shown is_none ahead behind) (shown is_none (drop n ahead) behind) (take n ahead)
consumed true ahead behind n = tt
consumed false ahead None n = tt
consumed false ahead (Some rest) n = ap (λ (bytes : List ℕ). bytes ++ rest) (sym (take-append-drop n ahead)) ∙ append_assoc (take n ahead) (drop n ahead) rest

-- the front of what the buffer holds is given, and the rest stays in it
pub reads_held : {T A : Type 0} (remaining : T → Option (List ℕ)) (old new : Adapter (BufReader T A)) (room count : ℕ) (bytes : List ℕ)
    → 0 < room → 0 < length (reader_buffer old.inner) → count ≡ min room (length (reader_buffer old.inner)) → bytes ≡ take count (reader_buffer old.inner)
    → new.fault_count ≡ old.fault_count → reader_buffer new.inner ≡ drop count (reader_buffer old.inner)
    → reader_inner new.inner ≡ reader_inner old.inner → reader_capacity new.inner ≡ reader_capacity old.inner
    → ReadsBuffered remaining old room (Ok bytes) new
reads_held remaining old new room count bytes some held is_count is_bytes faults buffer inner capacity =
    let ahead = reader_buffer old.inner in
    let given : bytes ≡ take room ahead = is_bytes ∙ ap (λ (n : ℕ). take n ahead) is_count ∙ take_min room ahead in
    let left : reader_remaining remaining new.inner ≡ shown (reader_capacity old.inner == 0) (drop count ahead) (remaining (reader_inner old.inner)) =
    λ j. shown (capacity j == 0) (buffer j) (remaining (inner j)) in
    let taken = consumed (reader_capacity old.inner == 0) ahead (remaining (reader_inner old.inner)) count in
    record {
      reads = record {
        faults = faults;
        inner = (
          subst (λ (o : Option (List ℕ)). Consumes (reader_remaining remaining old.inner) o bytes) (sym left)
              (subst (λ (bs : List ℕ). Consumes (reader_remaining remaining old.inner) (shown (reader_capacity old.inner == 0) (drop count ahead) (remaining (reader_inner old.inner))) bs) (sym is_bytes) taken),
          λ none. absurd (omega (arith, ap length none, ap length is_bytes, length-take count ahead, is_count, some, held)),
        );
      };
      in_hand = λ _. ap Ok given;
      left = λ _. buffer ∙ ap (λ (n : ℕ). drop n ahead) is_count ∙ drop_min room ahead;
      unasked = λ _. inner;
    }
