-- Words with one space between them are read as these words; so a written line reads as its step.
use Rattle.std.proofs.Common.{◌≡◌, ℕ, zero, suc, ◌*◌, ◌<◌, ◌≤◌, ◌^◌, leb, Bool, true, false, ◌&&◌, List, [], ◌∷◌, length, Option, None, Some, refl, sym, ap, ◌∙◌, subst, arith, decimal, length-append}
use Rattle.std.specs.List.{All, list_all, join_with_byte}
use Rattle.std.proofs.lemmas.Bool.{leb-true}
use Rattle.std.proofs.lemmas.Bool.Decides.{nat_tests}
use Rattle.std.proofs.lemmas.List.Folds.{list_all_at}
use Rattle.std.proofs.lemmas.Fmt.{digits_decimal, digits_value-decimal, decimal_nonempty, length-decimal-le}
use Rattle.aio_base.specs.declared.names.Dir.{Dir}
use Rattle.aio_base.specs.declared.names.Dir.TheVariants.{Read, Write, Priority}
use Rattle.aio_base.specs.declared.outcomes.Which.{Which}
use Rattle.aio_base.specs.declared.outcomes.Which.TheVariants as which
use Rattle.aio_base.specs.declared.steps.Step.{Step}
use Rattle.aio_base.specs.declared.steps.Step.TheVariants as step
use Rattle.aio_base.specs.Text.{dir_text, flags_of, which_text}
use Rattle.aio_base.specs.Lines.{line_bytes, Reads, HasSpelling, SpellAll, StepWord, Text, Number, Written, body_of, is_allowed, is_blank, is_word, limit_word, step_words, words_in, written_line, written_word, written_words}
use Rattle.aio_trace.proofs.Bodies.{body_of_other}
use Rattle.aio_trace.proofs.LineNumbers.{numerals, numeral_of_digits}
use Rattle.aio_trace.proofs.LineWords.{words_of_first, words_of_one, words_behind_blank}
use Rattle.aio_trace.proofs.Printed.{ArePrinted, ArePrintedWords, is_printed, number_printed, step_printed, text_allowed}

-- ## Numbers in range

-- each number of these words is at most the last moment
abbrev pub AreSmall : List StepWord → Type 0
AreSmall [] = Unit {0}
AreSmall (Text text ∷ ws) = AreSmall ws
AreSmall (Number n ∷ ws) = (n ≤ 10 ^ 18) × AreSmall ws

limit_small : (limit : Option ℕ) → HasSpelling (step.Begin limit) → AreSmall (limit_word limit ∷ [])
limit_small None fits = tt
limit_small (Some n) fits = (fits, tt)

pub step_small : (s : Step) → HasSpelling s → AreSmall (step_words s)
step_small (step.Del key) fits = (omega arith, tt)
step_small (step.Poll key dir waker) fits = (let k = fits.0 in omega arith, (let w = fits.2 in omega arith, tt))
step_small (step.New key dir) fits = (let k = fits.0 in omega arith, tt)
step_small (step.StepEar number waker) fits = (let n = fits.0 in omega arith, (let w = fits.1 in omega arith, tt))
step_small (step.DropEar number) fits = (omega arith, tt)
step_small (step.TimerAt deadline) fits = (fits, tt)
step_small (step.TimerEvery deadline period) fits = (fits.0, (fits.1.1, tt))
step_small (step.Tick number waker) fits = (let n = fits.0 in omega arith, (let w = fits.1 in omega arith, tt))
step_small (step.SetAt number deadline) fits = (let n = fits.0 in omega arith, (fits.1, tt))
step_small (step.SetEvery number deadline period) fits = (let n = fits.0 in omega arith, (fits.1, (fits.2.1, tt)))
step_small (step.End number) fits = (omega arith, tt)
step_small (step.Now moment) fits = (fits, tt)
step_small (step.Note event) fits = (let k = fits.0 in omega arith, tt)
step_small (step.Begin limit) fits = limit_small limit fits
step_small _ fits = tt

-- ## Lengths

-- so many words, or fewer, and none of these bytes is long
abbrev pub AreShort : ℕ → List StepWord → Type 0
AreShort room [] = Unit {0}
AreShort zero (w ∷ ws) = ⊥
AreShort (suc room) (Text text ∷ ws) = (leb (length text) 19 ≡ true) × AreShort room ws
AreShort (suc room) (Number n ∷ ws) = AreShort room ws

pub dir_short : (dir : Dir) → leb (length (dir_text dir)) 19 ≡ true
dir_short Read = refl
dir_short Write = refl
dir_short Priority = refl

flags_short : (read write : Bool) → leb (length (flags_of read write)) 19 ≡ true
flags_short false false = refl
flags_short true false = refl
flags_short false true = refl
flags_short true true = refl

which_short : (kind : Which) → leb (length (which_text kind)) 19 ≡ true
which_short which.Add = refl
which_short _ = refl

limit_short : (limit : Option ℕ) → AreShort 5 (limit_word limit ∷ [])
limit_short None = (refl, tt)
limit_short (Some n) = tt

pub step_short : (s : Step) → AreShort 6 (step_words s)
step_short (step.Poll key dir waker) = (refl, (dir_short dir, tt))
step_short (step.New key dir) = (refl, (dir_short dir, tt))
step_short (step.TimerAt deadline) = (refl, (refl, tt))
step_short (step.TimerEvery deadline period) = (refl, (refl, tt))
step_short step.TimerNever = (refl, (refl, tt))
step_short (step.SetAt number deadline) = (refl, (refl, tt))
step_short (step.SetEvery number deadline period) = (refl, (refl, tt))
step_short (step.Note event) = (refl, (flags_short event.on.read event.on.write, tt))
step_short (step.Fault kind) = (refl, (which_short kind, tt))
step_short (step.Begin limit) = (refl, limit_short limit)
step_short _ = (refl, tt)

number_short : (n : ℕ) → n ≤ 10 ^ 18 → length (decimal n) ≤ 19
number_short n small = length-decimal-le 19 n (omega arith) (omega arith) (omega arith)

word_short : (w : StepWord) (room : ℕ) (ws : List StepWord) → AreSmall (w ∷ ws) → AreShort (suc room) (w ∷ ws) → (length (written_word w) ≤ 19) × AreSmall ws × AreShort room ws
word_short (Text text) room ws small short = (leb-true (length text) 19 short.0, small, short.1)
word_short (Number n) room ws small short = (number_short n small.0, small.1, short)

joined_more : (x : List ℕ) (words : List (List ℕ)) (room : ℕ) → length x ≤ 19 → length (join_with_byte 32 words) ≤ 20 * room → length (join_with_byte 32 (x ∷ words)) ≤ 20 * suc room
joined_more x [] room one rest = omega arith
joined_more x (y ∷ words) room one rest = omega (arith, length-append x (32 ∷ join_with_byte 32 (y ∷ words)))

joined_short : (room : ℕ) (ws : List StepWord) → AreSmall ws → AreShort room ws → length (join_with_byte 32 (written_words ws)) ≤ 20 * room
joined_short room [] small short = omega arith
joined_short zero (w ∷ ws) small short = absurd short
joined_short (suc room) (w ∷ ws) small short =
    let parts = word_short w room ws small short in
    joined_more (written_word w) (written_words ws) room parts.0 (joined_short room ws parts.1 parts.2)

-- ## Words

written_printed : (ws : List StepWord) → AreSmall ws → ArePrintedWords ws → ArePrinted (written_words ws)
written_printed [] small printed = tt
written_printed (Text text ∷ ws) small printed = (printed.0, written_printed ws small printed.1)
written_printed (Number n ∷ ws) small printed =
    (number_printed (decimal n) (let top = small.0 in omega (arith, decimal_nonempty n (omega arith))) (let top = small.0 in digits_decimal numerals n (omega arith)), written_printed ws small.1 printed.1)

spell_written : (ws : List StepWord) → AreSmall ws → SpellAll (written_words ws) ws
spell_written [] small = tt
spell_written (Text text ∷ ws) small = (refl, spell_written ws small)
spell_written (Number n ∷ ws) small =
    let top : n < 2 ^ 64 = (let top = small.0 in omega arith) in
    (numeral_of_digits (decimal n) (decimal_nonempty n top) (digits_decimal numerals n top) ∙ ap Some (digits_value-decimal numerals n top), spell_written ws small.1)

both_parts : (a b : Bool) → (a && b) ≡ true → (a ≡ true) × (b ≡ true)
both_parts true b e = (refl, e)
both_parts false b e = absurd cc

printed_solid : (word : List ℕ) → list_all is_printed word ≡ true → All (λ b. is_blank b ≡ false) word
printed_solid [] printed k d within = absurd (omega arith)
printed_solid (b ∷ bytes) printed zero d within = let first = (both_parts (is_printed b) (list_all is_printed bytes) printed).0 in grind (arith, nat_tests)
printed_solid (b ∷ bytes) printed (suc k) d within = printed_solid bytes (both_parts (is_printed b) (list_all is_printed bytes) printed).1 k d (omega arith)

word_has_byte : (word : List ℕ) → is_word word ≡ true → 0 < length word
word_has_byte [] some = absurd cc
word_has_byte (b ∷ bytes) some = omega arith

words_of_joined : (words : List (List ℕ)) → ArePrinted words → words_in (join_with_byte 32 words) ≡ words
words_of_joined [] printed = refl
words_of_joined (x ∷ []) printed = let p = both_parts (is_word x) (list_all is_printed x) printed.0 in words_of_one x (word_has_byte x p.0) (printed_solid x p.1)
words_of_joined (x ∷ y ∷ words) printed =
    let p = both_parts (is_word x) (list_all is_printed x) printed.0 in
    let rest = join_with_byte 32 (y ∷ words) in
    words_of_first x 32 rest (word_has_byte x p.0) (printed_solid x p.1) refl ∙ ap (λ words. x ∷ words) (words_behind_blank 32 rest refl ∙ words_of_joined (y ∷ words) printed.1)

allowed_body : (line : List ℕ) → list_all is_allowed line ≡ true → body_of line ≡ line
allowed_body line allowed = body_of_other line (λ at long last.
    let refused : list_all is_allowed line ≡ false = list_all_at is_allowed line at 0 (omega arith) (ap is_allowed last) in
    absurd cc)

-- what a line needs that reads as these words
pub record SpelledLine (ws : List StepWord) (line : List ℕ) : Type 0 where
  pub short : length line ≤ line_bytes
  pub allowed : list_all is_allowed (body_of line) ≡ true
  pub spelled : SpellAll (words_in (body_of line)) ws

-- six words at most, whose numbers are small and whose bytes are few and printed, with one space between them
pub spelled_line : (ws : List StepWord) → AreSmall ws → AreShort 6 ws → ArePrintedWords ws → SpelledLine ws (join_with_byte 32 (written_words ws))
spelled_line ws small few shown =
    let line = join_with_byte 32 (written_words ws) in
    let printed = written_printed ws small shown in
    let words : words_in line ≡ written_words ws = words_of_joined (written_words ws) printed in
    let allowed : list_all is_allowed line ≡ true = text_allowed line (subst ArePrinted (sym words) printed) in
    let body : body_of line ≡ line = allowed_body line allowed in
    record {
      short = let long = joined_short 6 ws small few in omega arith;
      allowed = ap (list_all is_allowed) body ∙ allowed;
      spelled = subst (λ words. SpellAll words ws) (sym (ap words_in body ∙ words)) (spell_written ws small);
    }

pub written_reads : (s : Step) → HasSpelling s → Reads s (written_line s)
unfolding written_line
written_reads s fits =
    let line = spelled_line (step_words s) (step_small s fits) (step_short s) (step_printed s) in
    record { in_range = fits; short = line.short; allowed = line.allowed; spelled = line.spelled }

pub reads : (s : Step) (line : List ℕ) → Written s line → Reads s line
reads s line written = subst (Reads s) (sym written.1) (written_reads s written.0)
