-- A line of the first version reads as a step exactly where its words spell the step, as one alone, and exactly where it has no fault.
use Rattle.std.proofs.Common.{◌≡◌, ℕ, ◌≤◌, Bool, true, false, cond, ltb, List, [], ◌∷◌, length, None, Some, Result, Ok, Err, refl, sym, ap, ◌∙◌, subst, codes, arith}
use Rattle.std.specs.Prelude.{bytes_eq, find}
use Rattle.std.specs.List.{list_all}
use Rattle.std.specs.Option.{ok_or}
use Rattle.std.specs.Result.{result_ok, result_err}
use Rattle.std.proofs.lemmas.Bool.Decides.{nat_tests}
use Rattle.aio_base.specs.declared.names.Dir.{Dir}
use Rattle.aio_base.specs.declared.names.Dir.TheVariants.{Read, Write, Priority}
use Rattle.aio_base.specs.declared.names.Interest.{Interest}
use Rattle.aio_base.specs.declared.names.TheConstants.Interest.{NONE, READ, WRITE, READ_WRITE}
use Rattle.aio_base.specs.declared.outcomes.Which.TheVariants as which
use Rattle.aio_base.specs.declared.steps.LineFault.{LineFault}
use Rattle.aio_base.specs.declared.steps.LineFault.TheVariants as fault
use Rattle.aio_base.specs.declared.steps.Step.{Step}
use Rattle.aio_base.specs.declared.steps.Step.TheVariants as step
use Rattle.aio_base.specs.Text.{dir_text, flags_text}
use Rattle.aio_base.specs.Lines.{body_of, is_allowed, last_number, line_bytes, numeral, words_in, HasWord, FlagsHaveWord, HasSpelling, Number, step_words, SpellAll, Reads, Asked, ADirection, SomeFlags, value_of, read, lines, words_read, line_read, first, written_directions, written_flags, step_read, fault_of}
use Rattle.aio_base.proofs.LineTables.{Spelling, Held, HeldBack, Says, Comes, Leads, same_bytes, is_some, number_within, within_is, held, held_back, comes, leads}

-- ## Places

abbrev pub spelling : Spelling ℕ
spelling = record { waker_word = Number; Waker = λ w. w ≤ last_number; Direction = HasWord; Flags = FlagsHaveWord }

dir_held : (word : List ℕ) (dir : Dir) → find (λ (dir : Dir). bytes_eq word (dir_text dir)) written_directions ≡ Some dir → HasWord dir × (word ≡ dir_text dir)
dir_held word dir e = by_tests (bytes_eq word (codes "r")) (bytes_eq word (codes "w")) refl refl e
  where
    by_tests : (r w : Bool) → bytes_eq word (codes "r") ≡ r → bytes_eq word (codes "w") ≡ w → cond r (Some Read) (cond w (Some Write) None) ≡ Some dir → HasWord dir × (word ≡ dir_text dir)
    by_tests true w is other e = let same : Read ≡ dir = cc in (subst HasWord same refl, same_bytes word (codes "r") is ∙ ap dir_text same)
    by_tests false true other is e = let same : Write ≡ dir = cc in (subst HasWord same refl, same_bytes word (codes "w") is ∙ ap dir_text same)
    by_tests false false one two e = absurd cc

flags_held : (word : List ℕ) (is_on : Interest) → find (λ (on : Interest). bytes_eq word (flags_text on)) written_flags ≡ Some is_on → (is_on.priority ≡ false) × (word ≡ flags_text is_on)
flags_held word is_on e = by_tests (bytes_eq word (codes "-")) (bytes_eq word (codes "r")) (bytes_eq word (codes "w")) (bytes_eq word (codes "rw")) refl refl refl refl e
  where
    by_tests : (n r w b : Bool) → bytes_eq word (codes "-") ≡ n → bytes_eq word (codes "r") ≡ r → bytes_eq word (codes "w") ≡ w → bytes_eq word (codes "rw") ≡ b
        → cond n (Some NONE) (cond r (Some READ) (cond w (Some WRITE) (cond b (Some READ_WRITE) None))) ≡ Some is_on → (is_on.priority ≡ false) × (word ≡ flags_text is_on)
    by_tests true r w b is e2 e3 e4 e = let same : NONE ≡ is_on = cc in (sym (ap (λ (on : Interest). on.priority) same), same_bytes word (codes "-") is ∙ ap flags_text same)
    by_tests false true w b e1 is e3 e4 e = let same : READ ≡ is_on = cc in (sym (ap (λ (on : Interest). on.priority) same), same_bytes word (codes "r") is ∙ ap flags_text same)
    by_tests false false true b e1 e2 is e4 e = let same : WRITE ≡ is_on = cc in (sym (ap (λ (on : Interest). on.priority) same), same_bytes word (codes "w") is ∙ ap flags_text same)
    by_tests false false false true e1 e2 e3 is e = let same : READ_WRITE ≡ is_on = cc in (sym (ap (λ (on : Interest). on.priority) same), same_bytes word (codes "rw") is ∙ ap flags_text same)
    by_tests false false false false e1 e2 e3 e4 e = absurd cc

first_held : (place : Asked) → Held first spelling place
first_held = held first spelling
    (λ word w e. let is = number_within 0 last_number (numeral word) w (is_some _ _ w e) in (is.2, is.0))
    (λ word dir e. dir_held word dir (is_some _ _ dir e))
    (λ word on e. flags_held word on (is_some _ _ on e))

dir_back : (dir : Dir) → HasWord dir → value_of first ADirection (dir_text dir) ≡ Ok dir
dir_back Read has = refl
dir_back Write has = refl
dir_back Priority has = absurd cc

abbrev flags : Bool → Bool → Bool → Interest
flags read write priority = record { read = read; write = write; priority = priority }

flags_back : (read write priority : Bool) → priority ≡ false → value_of first SomeFlags (flags_text (flags read write priority)) ≡ Ok (flags read write priority)
flags_back false false false has = refl
flags_back true false false has = refl
flags_back false true false has = refl
flags_back true true false has = refl
flags_back read write true has = absurd cc

first_held_back : (place : Asked) → HeldBack first spelling place
first_held_back = held_back first spelling
    (λ word w fits is. ap (λ o. ok_or o fault.Number) (within_is 0 last_number w (numeral word) is (omega arith) fits))
    (λ word dir fits is. ap (value_of first ADirection) is ∙ dir_back dir fits)
    (λ word on fits is. ap (value_of first SomeFlags) is ∙ flags_back on.read on.write on.priority fits)

-- ## The table

-- each line of the table is spelled as it is read
first_says : Says spelling step_words HasSpelling (lines first) []
first_says = (
  (refl, tt),
  (
    (λ k fk. (refl, fk)),
    (
      (λ k fk d fd w fw. (refl, (fk, fd, fw))),
      (
        (λ k fk d fd. (refl, (fk, fd))),
        (
          (λ n fn w fw. (refl, (fn, fw))),
          (
            (λ n fn. (refl, fn)),
            (
              ((λ t ft. (refl, ft)), ((λ t ft p fp. (refl, (ft, fp))), ((refl, tt), tt))),
              (
                (λ n fn w fw. (refl, (fn, fw))),
                (
                  (λ n fn. ((λ t ft. (refl, (fn, ft))), ((λ t ft p fp. (refl, (fn, ft, fp))), tt))),
                  (
                    (λ n fn. (refl, fn)),
                    (
                      (λ t ft. (refl, ft)),
                      (
                        (λ k fk on fon. (refl, (fk, fon))),
                        (
                          ((refl, tt), ((refl, tt), ((refl, tt), ((refl, tt), tt)))),
                          (
                            (refl, tt),
                            (
                              (λ l fl. (refl, fl)),
                              (
                                (refl, tt),
                                (
                                  (refl, tt),
                                  (
                                    (refl, tt),
                                    (
                                      (refl, tt),
                                      tt,
                                    ),
                                  ),
                                ),
                              ),
                            ),
                          ),
                        ),
                      ),
                    ),
                  ),
                ),
              ),
            ),
          ),
        ),
      ),
    ),
  ),
)

-- and each step that can be spelled is found in it
first_leads : (s : Step) → HasSpelling s → Leads spelling (lines first) (step_words s) s
first_leads step.Add fits = refl
first_leads (step.Del key) fits = (key.0, fits, refl, refl)
first_leads (step.Poll key dir waker) fits = (key.0, fits.0, refl, (dir, fits.1, refl, (waker.0, fits.2, refl, refl)))
first_leads (step.New key dir) fits = (key.0, fits.0, refl, (dir, fits.1, refl, refl))
first_leads (step.StepEar number waker) fits = (number, fits.0, refl, (waker.0, fits.1, refl, refl))
first_leads (step.DropEar number) fits = (number, fits, refl, refl)
first_leads (step.TimerAt deadline) fits = (deadline, fits, refl, refl)
first_leads (step.TimerEvery deadline period) fits = (deadline, fits.0, refl, (period, fits.1, refl, refl))
first_leads step.TimerNever fits = refl
first_leads (step.Tick number waker) fits = (number, fits.0, refl, (waker.0, fits.1, refl, refl))
first_leads (step.SetAt number deadline) fits = (number, fits.0, refl, (deadline, fits.1, refl, refl))
first_leads (step.SetEvery number deadline period) fits = (number, fits.0, refl, (deadline, fits.1, refl, (period, fits.2, refl, refl)))
first_leads (step.End number) fits = (number, fits, refl, refl)
first_leads (step.Now moment) fits = (moment, fits, refl, refl)
first_leads (step.Note event) fits = (event.key.0, fits.0, refl, (event.on, fits.1, refl, refl))
first_leads (step.Fault which.Add) fits = refl
first_leads (step.Fault which.Arm) fits = refl
first_leads (step.Fault which.Remove) fits = refl
first_leads (step.Fault which.Wait) fits = refl
first_leads step.Interrupt fits = refl
first_leads (step.Begin limit) fits = (limit, fits, refl, refl)
first_leads step.Wait fits = refl
first_leads step.Handle fits = refl
first_leads step.Finish fits = refl
first_leads step.React fits = refl

-- ## Words

-- words that read as a step spell it
pub words_come : (words : List (List ℕ)) (s : Step) → words_read first words ≡ Ok s → Comes step_words HasSpelling s words
words_come [] s e = absurd cc
words_come (word ∷ words) s e = comes first spelling step_words HasSpelling first_held (lines first) [] [] (word ∷ words) s first_says tt e

words_read_by : (words : List (List ℕ)) (s : Step) → read first (lines first) words ≡ Ok s → words_read first words ≡ Ok s
words_read_by [] s e = absurd cc
words_read_by (word ∷ words) s e = e

pub words_back : (words : List (List ℕ)) (s : Step) → HasSpelling s → SpellAll words (step_words s) → words_read first words ≡ Ok s
words_back words s fits spelled = words_read_by words s (leads first spelling first_held_back (lines first) (step_words s) s words (first_leads s fits) spelled)

-- ## Lines

pub line_reads : (s : Step) (line : List ℕ) → line_read first line ≡ Ok s → Reads s line
line_reads s line e = by_tests (ltb line_bytes (length line)) (list_all is_allowed (body_of line)) refl refl e
  where
    by_tests : (long allowed : Bool) → ltb line_bytes (length line) ≡ long → list_all is_allowed (body_of line) ≡ allowed
        → cond long (Err fault.Long) (cond allowed (words_read first (words_in (body_of line))) (Err fault.Byte)) ≡ Ok s → Reads s line
    by_tests true allowed long all e = absurd cc
    by_tests false false short all e = absurd cc
    by_tests false true short all e =
        let c = words_come (words_in (body_of line)) s e in
        record { in_range = c.0; short = grind (arith, nat_tests); allowed = all; spelled = c.1 }

pub reads_back : (s : Step) (line : List ℕ) → Reads s line → line_read first line ≡ Ok s
reads_back s line reads =
    let short : ltb line_bytes (length line) ≡ false = let most = reads.short in grind (arith, nat_tests) in
    rw (short, reads.allowed) (words_back (words_in (body_of line)) s reads.in_range reads.spelled)

ok_is : (read : Result Step LineFault) (s : Step) → result_ok read ≡ Some s → read ≡ Ok s
ok_is (Ok t) s e = let same : t ≡ s = cc in ap Ok same
ok_is (Err f) s e = absurd cc

pub is_read : (s : Step) (line : List ℕ) → step_read line ≡ Some s → Reads s line
unfolding step_read
is_read s line e = line_reads s line (ok_is (line_read first line) s e)

pub read_is : (s : Step) (line : List ℕ) → Reads s line → step_read line ≡ Some s
unfolding step_read
read_is s line reads = ap result_ok (reads_back s line reads)

-- at most one step reads from a line
pub reads_one : (s t : Step) (line : List ℕ) → Reads s line → Reads t line → s ≡ t
reads_one s t line one other = let same : Ok s ≡ Ok t = sym (reads_back s line one) ∙ reads_back t line other in cc

-- ## Faults

err_is : (read : Result Step LineFault) (f : LineFault) → result_err read ≡ Some f → read ≡ Err f
err_is (Ok s) f e = absurd cc
err_is (Err g) f e = let same : g ≡ f = cc in ap Err same

-- the fault of a line is what its reading gives
pub fault_back : (f : LineFault) (line : List ℕ) → fault_of line ≡ Some f → line_read first line ≡ Err f
unfolding fault_of
fault_back f line e = err_is (line_read first line) f e

pub is_fault : (f : LineFault) (line : List ℕ) → line_read first line ≡ Err f → fault_of line ≡ Some f
unfolding fault_of
is_fault f line e = ap result_err e

pub no_fault : (s : Step) (line : List ℕ) → Reads s line → fault_of line ≡ None
unfolding fault_of
no_fault s line reads = ap result_err (reads_back s line reads)

pub some_step : (line : List ℕ) → fault_of line ≡ None → (s : Step) × Reads s line
unfolding fault_of
some_step line none = by_case (line_read first line) refl none
  where
    by_case : (read : Result Step LineFault) → line_read first line ≡ read → result_err read ≡ None → (s : Step) × Reads s line
    by_case (Ok s) is none = (s, line_reads s line is)
    by_case (Err f) is none = absurd cc
