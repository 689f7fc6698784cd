-- A written line of the second version reads as itself, and that of a step is written as in the first version.
use Rattle.std.proofs.Common.{◌≡◌, ℕ, ◌≤◌, ◌<◌, leb, nat_le, Bool, true, false, ◌&&◌, List, [], ◌∷◌, length, refl, sym, ap, subst, codes, arith}
use Rattle.std.specs.List.{list_all, join_with_byte}
use Rattle.std.proofs.lemmas.Bool.Decides.{nat_tests}
use Rattle.aio_base.specs.declared.names.Dir.{Dir}
use Rattle.aio_base.specs.declared.names.Dir.TheVariants.{Read, Write, Priority}
use Rattle.aio_base.specs.declared.names.Event.{Event}
use Rattle.aio_base.specs.declared.steps.Step.{Step}
use Rattle.aio_base.specs.declared.steps.Step.TheVariants as step
use Rattle.aio_base.specs.Text.{dir_text, flags_of}
use Rattle.aio_base.specs.Lines.{HasSpelling, NamesNoPriority, Number, StepWord, Text, step_words, written_line, written_words}
use Rattle.aio_trace.proofs.Printed.{ArePrintedWords, IsPrinted, is_printed, step_printed}
use Rattle.aio_trace.proofs.WrittenLines.{AreShort, AreSmall, dir_short, spelled_line, step_short, step_small}
use Rattle.aio_tasks.specs.declared.steps.Line2.{Line2}
use Rattle.aio_tasks.specs.declared.steps.Line2.TheVariants as line
use Rattle.aio_tasks.specs.declared.steps.Step2.TheVariants as step2
use Rattle.aio_tasks.specs.Names.{IsName, is_digit, is_later, is_letter, is_name}
use Rattle.aio_tasks.specs.Lines2.{HasNumbers, HasSpelling2, Reads2, Written2, line_words, plain_words, some_flags, written_line2}

both_parts : (a b : Bool) → (a && b) ≡ true → (a ≡ true) × (b ≡ true)
both_parts true b e = (refl, e)
both_parts false b e = absurd cc

-- ## Words

letter_printed : (b : ℕ) → is_letter b ≡ true → is_printed b ≡ true
letter_printed b letter = let p = both_parts (nat_le 97 b) (nat_le b 122) letter in let low = p.0 in let high = p.1 in grind (arith, nat_tests)

later_printed : (b : ℕ) → is_later b ≡ true → is_printed b ≡ true
later_printed b later = grind (arith, nat_tests)

laters_printed : (bytes : List ℕ) → list_all is_later bytes ≡ true → list_all is_printed bytes ≡ true
laters_printed [] e = refl
laters_printed (b ∷ bytes) e = let p = both_parts (is_later b) (list_all is_later bytes) e in rw (later_printed b p.0, laters_printed bytes p.1) refl

name_printed : (name : List ℕ) → IsName name → IsPrinted name
name_printed [] is = absurd cc
name_printed (b ∷ bytes) is =
    let p = both_parts (is_letter b) _ is in
    let q = both_parts _ (list_all is_later bytes) p.1 in
    rw (letter_printed b p.0, laters_printed bytes q.1) refl

name_short : (name : List ℕ) → IsName name → leb (length name) 19 ≡ true
name_short [] is = absurd cc
name_short (b ∷ bytes) is =
    let p = both_parts (is_letter b) _ is in
    let q = both_parts _ (list_all is_later bytes) p.1 in
    let few = q.0 in grind (arith, nat_tests)

flags_printed : (read write priority : Bool) → IsPrinted (some_flags read write priority)
flags_printed false false false = refl
flags_printed true false false = refl
flags_printed false true false = refl
flags_printed false false true = refl
flags_printed true true false = refl
flags_printed true false true = refl
flags_printed false true true = refl
flags_printed true true true = refl

flags_short : (read write priority : Bool) → leb (length (some_flags read write priority)) 19 ≡ true
flags_short false false false = refl
flags_short true false false = refl
flags_short false true false = refl
flags_short false false true = refl
flags_short true true false = refl
flags_short true false true = refl
flags_short false true true = refl
flags_short true true true = refl

dir_printed : (dir : Dir) → IsPrinted (dir_text dir)
dir_printed Read = refl
dir_printed Write = refl
dir_printed Priority = refl

-- ## Lines

-- what is asked of words, so that a line of them reads as they are
record AreWritten (ws : List StepWord) : Type 0 where
  small : AreSmall ws
  short : AreShort 6 ws
  printed : ArePrintedWords ws

-- a step that the first version can spell
first_written : (s : Step) → HasSpelling s → AreWritten (step_words s)
first_written s fits = record { small = step_small s fits; short = step_short s; printed = step_printed s }

plain_written : (s : Step) → HasNumbers s → AreWritten (plain_words s)
plain_written (step.Poll key dir waker) fits = record {
  small = (let k = fits.0 in omega arith, (let w = fits.1 in omega arith, tt));
  short = step_short (step.Poll key dir waker);
  printed = step_printed (step.Poll key dir waker);
}
plain_written (step.New key dir) fits = record { small = (let k = fits in omega arith, tt); short = step_short (step.New key dir); printed = step_printed (step.New key dir) }
plain_written (step.Note event) fits = record {
  small = (let k = fits in omega arith, tt);
  short = (refl, (flags_short event.on.read event.on.write event.on.priority, tt));
  printed = (refl, (tt, (flags_printed event.on.read event.on.write event.on.priority, tt)));
}
plain_written step.Add fits = first_written step.Add fits
plain_written (step.Del key) fits = first_written (step.Del key) fits
plain_written (step.StepEar number waker) fits = first_written (step.StepEar number waker) fits
plain_written (step.DropEar number) fits = first_written (step.DropEar number) fits
plain_written (step.TimerAt deadline) fits = first_written (step.TimerAt deadline) fits
plain_written (step.TimerEvery deadline period) fits = first_written (step.TimerEvery deadline period) fits
plain_written step.TimerNever fits = first_written step.TimerNever fits
plain_written (step.Tick number waker) fits = first_written (step.Tick number waker) fits
plain_written (step.SetAt number deadline) fits = first_written (step.SetAt number deadline) fits
plain_written (step.SetEvery number deadline period) fits = first_written (step.SetEvery number deadline period) fits
plain_written (step.End number) fits = first_written (step.End number) fits
plain_written (step.Now moment) fits = first_written (step.Now moment) fits
plain_written (step.Fault kind) fits = first_written (step.Fault kind) fits
plain_written step.Interrupt fits = first_written step.Interrupt fits
plain_written (step.Begin limit) fits = first_written (step.Begin limit) fits
plain_written step.Wait fits = first_written step.Wait fits
plain_written step.Handle fits = first_written step.Handle fits
plain_written step.Finish fits = first_written step.Finish fits
plain_written step.React fits = first_written step.React fits

line_written : (m : Line2) → HasSpelling2 m → AreWritten (line_words m)
line_written (line.Step (step2.Plain s)) fits = plain_written s fits
line_written (line.Step (step2.Named (step.Poll key dir waker) name)) fits = record {
  small = (let k = fits.0.0 in omega arith, tt);
  short = (refl, (dir_short dir, (name_short name fits.2, tt)));
  printed = (refl, (tt, (dir_printed dir, (name_printed name fits.2, tt))));
}
line_written (line.Step (step2.Named (step.StepEar number waker) name)) fits = record {
  small = (let k = fits.0.0 in omega arith, tt);
  short = (refl, (name_short name fits.2, tt));
  printed = (refl, (tt, (name_printed name fits.2, tt)));
}
line_written (line.Step (step2.Named (step.Tick number waker) name)) fits = record {
  small = (let k = fits.0.0 in omega arith, tt);
  short = (refl, (name_short name fits.2, tt));
  printed = (refl, (tt, (name_printed name fits.2, tt)));
}
line_written (line.Step (step2.Named _ name)) fits = absurd fits.1
line_written (line.Step (step2.Task name waker)) fits = record {
  small = (let w = fits.1 in omega arith, tt);
  short = (refl, (name_short name fits.0, tt));
  printed = (refl, (name_printed name fits.0, (tt, tt)));
}
line_written (line.Repeat times) fits = record {
  small = (let n = fits.1 in omega arith, tt);
  short = (refl, tt);
  printed = (refl, (tt, tt));
}

pub written_reads2 : (m : Line2) → HasSpelling2 m → Reads2 m (written_line2 m)
unfolding written_line2
written_reads2 m fits =
    let are = line_written m fits in
    let it = spelled_line (line_words m) are.small are.short are.printed in
    record { in_range = fits; short = it.short; allowed = it.allowed; spelled = it.spelled }

pub reads2 : (m : Line2) (bytes : List ℕ) → Written2 m bytes → Reads2 m bytes
reads2 m bytes written = subst (Reads2 m) (sym written.1) (written_reads2 m written.0)

-- ## As in the first version

same_flags : (read write priority : Bool) → priority ≡ false → some_flags read write priority ≡ flags_of read write
same_flags false false false none = refl
same_flags true false false none = refl
same_flags false true false none = refl
same_flags true true false none = refl
same_flags read write true none = absurd cc

same_words : (s : Step) → NamesNoPriority s → plain_words s ≡ step_words s
same_words (step.Note event) names = ap (λ text. Text (codes "event") ∷ Number event.key.0 ∷ Text text ∷ []) (same_flags event.on.read event.on.write event.on.priority names)
same_words _ names = refl

pub written_as_first : (s : Step) → NamesNoPriority s → written_line2 (line.Step (step2.Plain s)) ≡ written_line s
unfolding written_line2 written_line
written_as_first s names = ap (λ ws. join_with_byte 32 (written_words ws)) (same_words s names)

other_words : (s : Step) → ((event : Event) → s ≡ step.Note event → ⊥) → plain_words s ≡ step_words s
other_words (step.Note event) other = absurd (other event refl)
other_words _ other = refl

-- but for an event, whichever directions it names
pub written_as_other : (s : Step) → ((event : Event) → s ≡ step.Note event → ⊥) → written_line2 (line.Step (step2.Plain s)) ≡ written_line s
unfolding written_line2 written_line
written_as_other s other = ap (λ ws. join_with_byte 32 (written_words ws)) (other_words s other)
