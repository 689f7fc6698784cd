-- How the code finds what a line reads as: by its words first, and by its bytes only where these spell no step.
use Rattle.std.proofs.Common.{◌≡◌, ℕ, ◌<◌, ◌≤◌, Bool, true, false, cond, eqb, ltb, List, [], ◌∷◌, length, Some, Result, Ok, Err, refl, sym, ap, ◌∙◌, arith}
use Rattle.std.specs.List.{list_all}
use Rattle.std.proofs.lemmas.Bool.Decides.{nat_tests, Decides-ltb}
use Rattle.aio_base.specs.declared.steps.LineFault.{LineFault}
use Rattle.aio_base.specs.declared.steps.LineFault.TheVariants as fault
use Rattle.aio_base.specs.declared.steps.Step.{Step}
use Rattle.aio_base.specs.Lines.{Reads, body_of, fault_of, first, is_allowed, line_bytes, line_read, step_words, words_in, words_read}
use Rattle.aio_base.proofs.FirstLines.{fault_back, is_fault, line_reads, reads_back, words_come}
use Rattle.aio_trace.proofs.Printed.{all_printed, both_parts, step_printed, text_allowed}

-- a line of more than 256 bytes
pub long_read : (line : List ℕ) → line_bytes < length line → line_read first line ≡ Err fault.Long
long_read line long = rw ((Decides-ltb line_bytes (length line)).1 long) refl

-- words that spell a step: all bytes of a text with these words are allowed
words_allowed : (s : Step) (text : List ℕ) → words_read first (words_in text) ≡ Ok s → list_all is_allowed text ≡ true
words_allowed s text e = text_allowed text (all_printed (words_in text) (step_words s) (words_come (words_in text) s e).1 (step_printed s))

pub step_read : (line : List ℕ) (s : Step) → length line ≤ line_bytes → words_read first (words_in (body_of line)) ≡ Ok s → line_read first line ≡ Ok s
step_read line s short e =
    let few : ltb line_bytes (length line) ≡ false = grind (arith, nat_tests) in
    rw (few, words_allowed s (body_of line) e) e

pub fault_read : (line : List ℕ) (f : LineFault) (allowed : Bool) → length line ≤ line_bytes → words_read first (words_in (body_of line)) ≡ Err f → list_all is_allowed (body_of line) ≡ allowed
    → line_read first line ≡ Err (cond allowed f fault.Byte)
fault_read line f true short e all = let few : ltb line_bytes (length line) ≡ false = grind (arith, nat_tests) in rw (few, all) e
fault_read line f false short e all = let few : ltb line_bytes (length line) ≡ false = grind (arith, nat_tests) in rw (few, all) refl

-- a line of allowed bytes has no carriage return at its end
allowed_body : (line : List ℕ) → list_all is_allowed line ≡ true → body_of line ≡ line
allowed_body [] e = refl
allowed_body (b ∷ []) e = by_test (eqb b 13) refl
  where
    by_test : (t : Bool) → eqb b 13 ≡ t → cond t [] (b ∷ []) ≡ b ∷ []
    by_test false other = refl
    by_test true is =
        let same : b ≡ 13 = grind (arith, nat_tests) in
        let no : true ≡ false = sym e ∙ ap (λ b. list_all is_allowed (b ∷ [])) same in
        absurd cc
allowed_body (b ∷ c ∷ bytes) e = ap (λ body. b ∷ body) (allowed_body (c ∷ bytes) (both_parts (is_allowed b) (list_all is_allowed (c ∷ bytes)) e).1)

-- words of the whole line that spell a step
pub whole_read : (line : List ℕ) (s : Step) → length line ≤ line_bytes → words_read first (words_in line) ≡ Ok s → line_read first line ≡ Ok s
whole_read line s short e =
    step_read line s short (ap (λ body. words_read first (words_in body)) (allowed_body line (words_allowed s line e)) ∙ e)

-- ## Both ways

pub record IsReading (read : Result Step LineFault) (line : List ℕ) : Type 0 where
  pub step : (s : Step) → (Reads s line → read ≡ Ok s) × (read ≡ Ok s → Reads s line)
  pub fault : (f : LineFault) → (fault_of line ≡ Some f → read ≡ Err f) × (read ≡ Err f → fault_of line ≡ Some f)

pub is_reading : (line : List ℕ) (read : Result Step LineFault) → line_read first line ≡ read → IsReading read line
is_reading line read e = record {
  step = λ s. ((λ reads. sym e ∙ reads_back s line reads), (λ is. line_reads s line (e ∙ is)));
  fault = λ f. ((λ is. sym e ∙ fault_back f line is), (λ is. is_fault f line (e ∙ is)));
}
