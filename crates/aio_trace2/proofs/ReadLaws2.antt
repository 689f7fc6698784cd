-- Bytes are read as a line of the second version exactly as they read as it, as one alone, or have their fault.
use Rattle.std.proofs.Common.{◌≡◌, ℕ, ◌≤◌, Bool, true, false, cond, ltb, List, [], ◌∷◌, length, Option, None, Some, Result, Ok, Err, refl, sym, ap, ◌∙◌, arith}
use Rattle.std.specs.List.{list_all}
use Rattle.std.specs.Result.{result_err}
use Rattle.std.proofs.lemmas.Bool.Decides.{nat_tests}
use Rattle.aio_base.specs.Lines.{body_of, is_allowed, line_bytes, words_in}
use Rattle.aio_tasks.specs.declared.steps.LineFault2.{LineFault2}
use Rattle.aio_tasks.specs.declared.steps.LineFault2.TheVariants as second
use Rattle.aio_tasks.specs.declared.steps.Line2.{Line2}
use Rattle.aio_tasks.specs.Lines2.{Reads2, fault_of2, second_read, words_read2}
use Rattle.aio_trace2.proofs.Spelled2.{words_back2, words_come2}

pub is_read2 : (m : Line2) (bytes : List ℕ) → second_read bytes ≡ Ok m → Reads2 m bytes
unfolding second_read
is_read2 m bytes e = by_tests (ltb line_bytes (length bytes)) (list_all is_allowed (body_of bytes)) refl refl e
  where
    by_tests : (long allowed : Bool) → ltb line_bytes (length bytes) ≡ long → list_all is_allowed (body_of bytes) ≡ allowed
        → cond long (Err second.Long) (cond allowed (words_read2 (words_in (body_of bytes))) (Err second.Byte)) ≡ Ok m → Reads2 m bytes
    by_tests true allowed long all e = absurd cc
    by_tests false false short all e = absurd cc
    by_tests false true short all e =
        let c = words_come2 (words_in (body_of bytes)) m e in
        record { in_range = c.0; short = grind (arith, nat_tests); allowed = all; spelled = c.1 }

pub reads_back2 : (m : Line2) (bytes : List ℕ) → Reads2 m bytes → second_read bytes ≡ Ok m
unfolding second_read
reads_back2 m bytes reads =
    let short : ltb line_bytes (length bytes) ≡ false = let most = reads.short in grind (arith, nat_tests) in
    rw (short, reads.allowed) (words_back2 m reads.in_range (words_in (body_of bytes)) reads.spelled)

pub reads_one2 : (m n : Line2) (bytes : List ℕ) → Reads2 m bytes → Reads2 n bytes → m ≡ n
reads_one2 m n bytes one other = let same : Ok m ≡ Ok n = sym (reads_back2 m bytes one) ∙ reads_back2 n bytes other in cc

pub no_fault2 : (m : Line2) (bytes : List ℕ) → Reads2 m bytes → fault_of2 bytes ≡ None
no_fault2 m bytes reads = ap result_err (reads_back2 m bytes reads)

pub some_line2 : (bytes : List ℕ) → fault_of2 bytes ≡ None → (m : Line2) × Reads2 m bytes
some_line2 bytes none = by_case (second_read bytes) refl none
  where
    by_case : (o : Result Line2 LineFault2) → second_read bytes ≡ o → result_err o ≡ None → (m : Line2) × Reads2 m bytes
    by_case (Ok m) is none = (m, is_read2 m bytes is)
    by_case (Err f) is none = absurd cc

-- ## What the code reads

-- bytes are read exactly as they read, and are refused exactly for their fault
pub record IsReading2 (read : Result Line2 LineFault2) (bytes : List ℕ) : Type 0 where
  pub line : (m : Line2) → (Reads2 m bytes → read ≡ Ok m) × (read ≡ Ok m → Reads2 m bytes)
  pub fault : (f : LineFault2) → (fault_of2 bytes ≡ Some f → read ≡ Err f) × (read ≡ Err f → fault_of2 bytes ≡ Some f)

fault_is : (read : Result Line2 LineFault2) (f : LineFault2) → result_err read ≡ Some f → read ≡ Err f
fault_is (Ok m) f e = absurd cc
fault_is (Err g) f e = let same : g ≡ f = cc in ap Err same

pub is_reading2 : (bytes : List ℕ) (read : Result Line2 LineFault2) → read ≡ second_read bytes → IsReading2 read bytes
is_reading2 bytes read e = record {
  line = λ m. ((λ reads. e ∙ reads_back2 m bytes reads), (λ is. is_read2 m bytes (sym e ∙ is)));
  fault = λ f. ((λ is. e ∙ fault_is (second_read bytes) f is), (λ is. ap result_err (sym e ∙ is)));
}
