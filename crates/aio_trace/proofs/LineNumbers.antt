-- The number that a text's first word spells.
use Rattle.std.proofs.Common.{◌≡◌, ℕ, ◌+◌, ◌*◌, ◌-◌, ◌^◌, ◌<◌, ◌≤◌, Bool, true, false, cond, List, [], ◌∷◌, length, get_or, take, drop, Option, None, Some, Ok, Err, refl, sym, ap, ◌∙◌, subst, inl, inr, ◌⊎◌, arith}
use Rattle.std.specs.List.{All}
use Rattle.std.specs.Int.{IsInRange}
use Rattle.std.specs.Option.{ok_or}
use Rattle.std.specs.Str.{all_ascii_digits}
use Rattle.std.specs.Str.Parse.{digits_value}
use Rattle.std.proofs.lemmas.List.{take_all, take-append-le, take-append-drop, length-take-le, get_or-take}
use Rattle.std.proofs.lemmas.List.Elements.{All-more}
use Rattle.std.proofs.lemmas.Grind.{get_or_default_zero}
use Rattle.std.proofs.lemmas.Bool.Decides.{nat_tests}
use Rattle.std.proofs.lemmas.Str.Parse.{IsNumeralModel, numerals_by_value, tells_all_ascii_digits, digit_at, digits_value-take-le, digits_value_short}
use Rattle.std.proofs.lemmas.Str.{digit_value_digit}
use Rattle.std.proofs.lemmas.Int.Digits.{digits_more, digits_value_more}
use Rattle.aio_base.specs.declared.steps.LineFault.TheVariants as fault
use Rattle.aio_base.specs.Lines.{is_blank, numeral, with_rest, within, words_in}
use Rattle.aio_base.proofs.LineTables.{number_within, within_is}
use Rattle.aio_trace.specs.Words.{take_number, up_to}
use Rattle.aio_trace.proofs.LineWords.{FirstWord, first_word, words_of_text, reaches, byte_of_word, front_of_word, words_at_blank, words_of_one, words_past_blank}

abbrev pub AreDigits : List ℕ → Type 0
AreDigits word = all_ascii_digits word ≡ true

pub numerals : IsNumeralModel AreDigits (digits_value 10)
numerals = numerals_by_value AreDigits tells_all_ascii_digits

-- ## Digits

digit_is_no_blank : (b : ℕ) → IsInRange 48 57 b → is_blank b ≡ false
digit_is_no_blank b range = let low = range.0 in grind (arith, nat_tests)

pub digits_are_solid : (word : List ℕ) → AreDigits word → All (λ b. is_blank b ≡ false) word
digits_are_solid word digits k d within =
    let same : get_or word k d ≡ get_or word k 0 = get_or_default_zero word k d within in
    ap is_blank same ∙ digit_is_no_blank (get_or word k 0) (digit_at word k (numerals.to word digits) within)

pub one_more_digit : (text : List ℕ) (at : ℕ) → at < length text → AreDigits (take at text) → 48 ≤ get_or text at 0 → get_or text at 0 ≤ 57 → AreDigits (take (at + 1) text)
one_more_digit text at within digits low high =
    numerals.from (take (at + 1) text)
    (digits_more 10 text at within (numerals.to (take at text) digits) (omega (arith, digit_value_digit (get_or text at 0) (low, high))))

pub one_digit_more : (text : List ℕ) (at : ℕ) → at < length text → 48 ≤ get_or text at 0 → get_or text at 0 ≤ 57
    → digits_value 10 (take (at + 1) text) ≡ digits_value 10 (take at text) * 10 + (get_or text at 0 - 48)
one_digit_more text at within low high =
    let more = digits_value_more 10 text at within in
    let digit = digit_value_digit (get_or text at 0) (low, high) in
    omega arith

-- ## Words that are numbers

numeral_by : (word : List ℕ) (digits : Bool) → all_ascii_digits word ≡ digits → 0 < length word → numeral word ≡ cond digits (Some (digits_value 10 word)) None
numeral_by [] digits e some = absurd (omega arith)
numeral_by (b ∷ bytes) digits e some = ap (λ t. cond t (Some (digits_value 10 (b ∷ bytes))) None) e

pub numeral_of_digits : (word : List ℕ) → 0 < length word → AreDigits word → numeral word ≡ Some (digits_value 10 word)
numeral_of_digits word some digits = numeral_by word true digits some

-- a word that stands for a number is digits, and the number is their value
pub record IsNumeral (word : List ℕ) (n : ℕ) : Type 0 where
  pub some : 0 < length word
  pub digits : AreDigits word
  pub value : n ≡ digits_value 10 word

numeral_digits_by : (word : List ℕ) (n : ℕ) (digits : Bool) → all_ascii_digits word ≡ digits → 0 < length word → cond digits (Some (digits_value 10 word)) None ≡ Some n → IsNumeral word n
numeral_digits_by word n true e some is = record { some = some; digits = e; value = cc }
numeral_digits_by word n false e some is = absurd cc

pub numeral_digits : (word : List ℕ) (n : ℕ) → numeral word ≡ Some n → IsNumeral word n
numeral_digits [] n e = absurd cc
numeral_digits (b ∷ bytes) n e = numeral_digits_by (b ∷ bytes) n (all_ascii_digits (b ∷ bytes)) refl (omega arith) (sym (numeral_by (b ∷ bytes) (all_ascii_digits (b ∷ bytes)) refl (omega arith)) ∙ e)

-- ## Numbers up to a greatest one

up_to_most : (most : ℕ) (word : List ℕ) (n : ℕ) → numeral word ≡ Some n → n ≤ most → up_to most word ≡ Ok n
up_to_most most word n is small = ap (λ o. ok_or o fault.Number) (within_is 0 most n (numeral word) is (omega arith) small)

up_to_none : (most : ℕ) (word : List ℕ) → ((n : ℕ) → IsNumeral word n → n ≤ most → ⊥) → up_to most word ≡ Err fault.Number
up_to_none most word never = by_case (within 0 most (numeral word)) refl
  where
    by_case : (o : Option ℕ) → within 0 most (numeral word) ≡ o → ok_or o fault.Number ≡ Err fault.Number
    by_case None e = refl
    by_case (Some n) e = let is = number_within 0 most (numeral word) n e in absurd (never n (numeral_digits word n is.0) is.2)

-- ## At the front of a text

-- digits up to a blank
pub number_at_blank : (text : List ℕ) (at value most : ℕ) → 0 < at → at < length text → AreDigits (take at text) → value ≡ digits_value 10 (take at text) → value ≤ most
    → is_blank (get_or text at 0) ≡ true → take_number most (words_in text) ≡ Ok (value, words_in (drop at text))
number_at_blank text at value most some within digits is small blank =
    let word = take at text in
    let long : 0 < length word = omega (arith, length-take-le at text (omega arith)) in
    let read : up_to most word ≡ Ok value = up_to_most most word value (numeral_of_digits word long digits ∙ ap Some (sym is)) small in
    ap (take_number most) (words_at_blank text at some within (digits_are_solid word digits) blank) ∙ ap (with_rest (words_in (drop at text))) read

-- digits up to the end
pub number_at_end : (text : List ℕ) (at value most : ℕ) → 0 < length text → length text ≤ at → AreDigits (take at text) → value ≡ digits_value 10 (take at text) → value ≤ most
    → take_number most (words_in text) ≡ Ok (value, [])
number_at_end text at value most some past digits is small =
    let whole : take at text ≡ text = take_all at text past in
    let all : AreDigits text = subst AreDigits whole digits in
    let read : up_to most text ≡ Ok value = up_to_most most text value (numeral_of_digits text some all ∙ ap Some (sym (is ∙ ap (digits_value 10) whole))) small in
    ap (take_number most) (words_of_one text some (digits_are_solid text all)) ∙ ap (with_rest []) read

-- a first word that is no number up to the greatest one
number_none : (text : List ℕ) (most : ℕ) (w : FirstWord text) → 0 < length w.word → ((n : ℕ) → IsNumeral w.word n → n ≤ most → ⊥) → take_number most (words_in text) ≡ Err fault.Number
number_none text most w some never = ap (take_number most) (words_of_text text w some) ∙ ap (with_rest (words_in w.rest)) (up_to_none most w.word never)

outside : {b : ℕ} → IsInRange 48 57 b → (b < 48) ⊎ (57 < b) → ⊥
outside range (inl l) = let low = range.0 in omega arith
outside range (inr h) = let high = range.1 in omega arith

-- another byte follows digits
pub number_with_other : (text : List ℕ) (at most : ℕ) → at < length text → AreDigits (take at text) → is_blank (get_or text at 0) ≡ false → (get_or text at 0 < 48) ⊎ (57 < get_or text at 0)
    → take_number most (words_in text) ≡ Err fault.Number
number_with_other text at most within digits solid other =
    let w = first_word text in
    let inside : at < length w.word = reaches text w at within (All-more (λ b. is_blank b ≡ false) text at 0 within (digits_are_solid (take at text) digits) solid) in
    number_none text most w (omega arith) (λ n is small.
    let range : IsInRange 48 57 (get_or w.word at 0) = digit_at w.word at (numerals.to w.word is.digits) inside in
    let P : ℕ → Type 0 = λ b. IsInRange 48 57 b in
    outside (subst P (byte_of_word text w at inside) range) other)

-- digits that stand for more already
pub number_too_great : (text : List ℕ) (at most : ℕ) → at < length text → AreDigits (take (at + 1) text) → most < digits_value 10 (take (at + 1) text)
    → take_number most (words_in text) ≡ Err fault.Number
number_too_great text at most within digits great =
    let w = first_word text in
    let inside : at < length w.word = reaches text w at within (digits_are_solid (take (at + 1) text) digits) in
    let front : take (at + 1) w.word ≡ take (at + 1) text = front_of_word text w (at + 1) (omega arith) in
    number_none text most w (omega arith) (λ n is small. omega (arith, is.value, ap (digits_value 10) front, digits_value-take-le 10 w.word (at + 1) (omega arith)))

-- ## A few digits at the front of a text

front_taken : (text : List ℕ) (few at : ℕ) → at ≤ length (take few text) → take at (take few text) ≡ take at text
front_taken text few at within = sym (take-append-le at (take few text) (drop few text) within) ∙ ap (take at) (take-append-drop few text)

-- so many digits stand for less than that power of ten
pub small_value : (text : List ℕ) (few at value most : ℕ) → at ≤ most → few ≤ length text → at ≤ length (take few text) → AreDigits (take at (take few text))
    → value ≡ digits_value 10 (take at (take few text)) → value < 10 ^ most
small_value text few at value most short within inside digits is =
    let size : length (take at (take few text)) ≡ at = length-take-le at (take few text) inside in
    let small : digits_value 10 (take at (take few text)) < 10 ^ most = digits_value_short numerals (take at (take few text)) most digits (omega (arith, size)) in
    omega (arith, is, small)

-- digits up to a space, which is passed over
pub few_at_space : (text : List ℕ) (few at value most : ℕ) → few ≤ length text → value ≤ most → 0 < at → at < length (take few text) → AreDigits (take at (take few text))
    → value ≡ digits_value 10 (take at (take few text)) → get_or (take few text) at 0 ≡ 32 → take_number most (words_in text) ≡ Ok (value, words_in (drop (at + 1) text))
few_at_space text few at value most within small some inside digits is space =
    let size : length (take few text) ≡ few = length-take-le few text within in
    let front : take at (take few text) ≡ take at text = front_taken text few at (omega arith) in
    let blank : is_blank (get_or text at 0) ≡ true = ap is_blank (sym (get_or-take few text at 0 (omega arith)) ∙ space) in
    number_at_blank text at value most some (omega arith) (subst AreDigits front digits) (is ∙ ap (digits_value 10) front) small blank
    ∙ ap (λ words. Ok (value, words)) (words_past_blank text at (omega arith) blank)

-- digits up to the end
pub few_at_end : (text : List ℕ) (few at value most : ℕ) → few ≤ length text → length text ≤ length (take few text) → value ≤ most → 0 < length text → length (take few text) ≤ at → at ≤ length (take few text)
    → AreDigits (take at (take few text)) → value ≡ digits_value 10 (take at (take few text)) → take_number most (words_in text) ≡ Ok (value, [])
few_at_end text few at value most within whole small some past inside digits is =
    let size : length (take few text) ≡ few = length-take-le few text within in
    let front : take at (take few text) ≡ take at text = front_taken text few at inside in
    number_at_end text at value most some (omega arith) (subst AreDigits front digits) (is ∙ ap (digits_value 10) front) small
