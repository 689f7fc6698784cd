-- The bytes of words: those of a step are printed, so a line of such words holds allowed bytes only.
use Rattle.std.proofs.Common.{◌≡◌, ℕ, ◌≤◌, Bool, true, false, ◌&&◌, nat_le, List, [], ◌∷◌, length, Option, None, Some, refl, sym, subst, arith, filter}
use Rattle.std.specs.List.{list_all, onto_first, slice_split}
use Rattle.std.specs.Int.{IsInRange}
use Rattle.std.proofs.lemmas.Bool.Decides.{nat_tests}
use Rattle.std.proofs.lemmas.List.Splits.{slice_split-cons_yes, slice_split-cons_no}
use Rattle.std.proofs.lemmas.Str.Parse.{tells_all_ascii_digits}
use Rattle.aio_base.specs.declared.names.Dir.TheVariants.{Read, Write, Priority}
use Rattle.aio_base.specs.declared.names.Dir.{Dir}
use Rattle.aio_base.specs.declared.outcomes.Which.{Which}
use Rattle.aio_base.specs.declared.outcomes.Which.TheVariants as which
use Rattle.aio_base.specs.declared.steps.Step.{Step}
use Rattle.aio_base.specs.declared.steps.Step.TheVariants as step
use Rattle.aio_base.specs.Text.{dir_text, flags_of, which_text}
use Rattle.aio_base.specs.Lines.{is_blank, is_allowed, is_word, words_in, StepWord, Text, Number, limit_word, step_words, Spells, SpellAll}
use Rattle.aio_trace.proofs.LineNumbers.{numeral_digits, AreDigits}

abbrev pub is_printed : ℕ → Bool
is_printed b = nat_le 33 b && nat_le b 126

-- a byte or more, and printed ones only
abbrev pub IsPrinted : List ℕ → Type 0
IsPrinted word = (is_word word && list_all is_printed word) ≡ true

abbrev pub ArePrinted : List (List ℕ) → Type 0
ArePrinted [] = Unit {0}
ArePrinted (word ∷ words) = IsPrinted word × ArePrinted words

-- ## The words of a step

abbrev pub IsPrintedWord : StepWord → Type 0
IsPrintedWord (Text text) = IsPrinted text
IsPrintedWord (Number n) = Unit {0}

abbrev pub ArePrintedWords : List StepWord → Type 0
ArePrintedWords [] = Unit {0}
ArePrintedWords (w ∷ ws) = IsPrintedWord w × ArePrintedWords ws

dir_printed : (dir : Dir) → IsPrinted (dir_text dir)
dir_printed Read = refl
dir_printed Write = refl
dir_printed Priority = refl

flags_printed : (read write : Bool) → IsPrinted (flags_of read write)
flags_printed false false = refl
flags_printed true false = refl
flags_printed false true = refl
flags_printed true true = refl

which_printed : (kind : Which) → IsPrinted (which_text kind)
which_printed which.Add = refl
which_printed _ = refl

limit_printed : (limit : Option ℕ) → IsPrintedWord (limit_word limit)
limit_printed None = refl
limit_printed (Some n) = tt

pub step_printed : (s : Step) → ArePrintedWords (step_words s)
step_printed (step.Del key) = (refl, (tt, tt))
step_printed (step.Poll key dir waker) = (refl, (tt, (dir_printed dir, (tt, tt))))
step_printed (step.New key dir) = (refl, (tt, (dir_printed dir, tt)))
step_printed (step.StepEar number waker) = (refl, (tt, (tt, tt)))
step_printed (step.DropEar number) = (refl, (tt, tt))
step_printed (step.TimerAt deadline) = (refl, (refl, (tt, tt)))
step_printed (step.TimerEvery deadline period) = (refl, (refl, (tt, (tt, tt))))
step_printed step.TimerNever = (refl, (refl, tt))
step_printed (step.Tick number waker) = (refl, (tt, (tt, tt)))
step_printed (step.SetAt number deadline) = (refl, (tt, (refl, (tt, tt))))
step_printed (step.SetEvery number deadline period) = (refl, (tt, (refl, (tt, (tt, tt)))))
step_printed (step.End number) = (refl, (tt, tt))
step_printed (step.Now moment) = (refl, (tt, tt))
step_printed (step.Note event) = (refl, (tt, (flags_printed event.on.read event.on.write, tt)))
step_printed (step.Fault kind) = (refl, (which_printed kind, tt))
step_printed (step.Begin limit) = (refl, (limit_printed limit, tt))
step_printed _ = (refl, tt)

-- ## The words of a line

digit_printed : (b : ℕ) → IsInRange 48 57 b → is_printed b ≡ true
digit_printed b range = let low = range.0 in let high = range.1 in grind (arith, nat_tests)

both_true : (a b : Bool) → a ≡ true → b ≡ true → (a && b) ≡ true
both_true a b p q = rw (p, q) refl

digits_printed : (word : List ℕ) → AreDigits word → list_all is_printed word ≡ true
digits_printed [] digits = refl
digits_printed (b ∷ bytes) digits =
    let parts = tells_all_ascii_digits.parts b bytes digits in
    both_true (is_printed b) (list_all is_printed bytes) (digit_printed b parts.0) (digits_printed bytes parts.1)

is_word_some : (word : List ℕ) → 1 ≤ length word → is_word word ≡ true
is_word_some [] some = absurd (omega arith)
is_word_some (b ∷ bytes) some = refl

pub number_printed : (word : List ℕ) → 1 ≤ length word → AreDigits word → IsPrinted word
number_printed word some digits = both_true (is_word word) (list_all is_printed word) (is_word_some word some) (digits_printed word digits)

spelled_printed : (word : List ℕ) (w : StepWord) → Spells word w → IsPrintedWord w → IsPrinted word
spelled_printed word (Text text) is printed = subst IsPrinted (sym is) printed
spelled_printed word (Number n) is printed = let digits = numeral_digits word n is in number_printed word (omega (arith, digits.some)) digits.digits

-- words that spell printed ones are printed
pub all_printed : (words : List (List ℕ)) (ws : List StepWord) → SpellAll words ws → ArePrintedWords ws → ArePrinted words
all_printed [] [] spelled printed = tt
all_printed [] (w ∷ ws) spelled printed = absurd spelled
all_printed (word ∷ words) [] spelled printed = absurd spelled
all_printed (word ∷ words) (w ∷ ws) spelled printed = (spelled_printed word w spelled.0 printed.0, all_printed words ws spelled.1 printed.1)

-- ## From words to bytes

pub both_parts : (a b : Bool) → (a && b) ≡ true → (a ≡ true) × (b ≡ true)
both_parts true b e = (refl, e)
both_parts false b e = absurd cc

printed_allowed : (b : ℕ) → is_printed b ≡ true → is_allowed b ≡ true
printed_allowed b printed = grind (arith, nat_tests)

blank_allowed : (b : ℕ) → is_blank b ≡ true → is_allowed b ≡ true
blank_allowed b blank = grind (arith, nat_tests)

-- the parts between blanks, the first of which has a byte more in front
more_printed : (b : ℕ) (parts : List (List ℕ)) → ArePrinted (filter is_word (onto_first b parts)) → (is_printed b ≡ true) × ArePrinted (filter is_word parts)
more_printed b [] printed = ((both_parts _ _ printed.0).0, tt)
more_printed b ([] ∷ parts) printed = ((both_parts _ _ printed.0).0, printed.1)
more_printed b ((c ∷ bytes) ∷ parts) printed = let first = both_parts _ _ printed.0 in (first.0, (first.1, printed.1))

-- a text whose words are printed holds allowed bytes only
pub text_allowed : (text : List ℕ) → ArePrinted (words_in text) → list_all is_allowed text ≡ true
text_allowed [] printed = refl
text_allowed (b ∷ bytes) printed = by_test (is_blank b) refl (text_allowed bytes)
  where
    by_test : (t : Bool) → is_blank b ≡ t → (ArePrinted (words_in bytes) → list_all is_allowed bytes ≡ true) → list_all is_allowed (b ∷ bytes) ≡ true
    by_test true blank others =
        both_true (is_allowed b) (list_all is_allowed bytes) (blank_allowed b blank)
        (others (subst (λ parts. ArePrinted (filter is_word parts)) (slice_split-cons_yes is_blank b bytes blank) printed))
    by_test false other others =
        let more = more_printed b (slice_split is_blank bytes) (subst (λ parts. ArePrinted (filter is_word parts)) (slice_split-cons_no is_blank b bytes other) printed) in
        both_true (is_allowed b) (list_all is_allowed bytes) (printed_allowed b more.0) (others more.1)
