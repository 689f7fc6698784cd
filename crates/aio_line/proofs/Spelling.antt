-- The number that a word spells, as `parse` reads it.
use Rattle.std.proofs.Common.{◌≡◌, ◌≢◌, ℕ, ◌^◌, ◌<◌, List, Some, Result, Ok, Err, get_or, sym, ap, ◌∙◌, subst, arith}
use Rattle.std.specs.Result.{OkIff}
use Rattle.std.specs.Str.Parse.{IsNumeral, ParsesUnsigned, digits_value}
use Rattle.std.proofs.lemmas.Str.Parse.{without_leading_plus_none, digit_at}
use Rattle.aio_base.specs.Lines.{numeral}
use Rattle.aio_trace.proofs.LineNumbers.{numeral_digits, numeral_of_digits, numerals}
use Rattle.aio_line.specs.Words.{SpellsUpTo}

plain : {E : Type 0} (word : List ℕ) (r : Result ℕ E) → get_or word 0 0 ≢ 43 → ParsesUnsigned 64 10 word r
    → OkIff r (IsNumeral 10 word × (digits_value 10 word < 2 ^ 64)) (digits_value 10 word)
plain word r no_plus parses =
    subst (λ digits. OkIff r (IsNumeral 10 digits × (digits_value 10 digits < 2 ^ 64)) (digits_value 10 digits)) (without_leading_plus_none word no_plus) parses

-- a word that was read as a number spells it
pub spells : {E : Type 0} (word : List ℕ) (number : ℕ) (r : Result ℕ E) → get_or word 0 0 ≢ 43 → ParsesUnsigned 64 10 word r → r ≡ Ok number → numeral word ≡ Some number
spells word number r no_plus parses is =
    let read = subst (λ r. OkIff r (IsNumeral 10 word × (digits_value 10 word < 2 ^ 64)) (digits_value 10 word)) is (plain word r no_plus parses) in
    numeral_of_digits word read.0.0.0 (numerals.from word read.0.0.1) ∙ ap Some (sym read.1)

-- one that was not spells none of 64 bits
pub spells_none : {E : Type 0} (word : List ℕ) (most : ℕ) (error : E) (r : Result ℕ E) → most < 2 ^ 64 → get_or word 0 0 ≢ 43 → ParsesUnsigned 64 10 word r → r ≡ Err error
    → (n : ℕ) → SpellsUpTo most n word → ⊥
spells_none word most error r bound no_plus parses is n spelled =
    let none = subst (λ r. OkIff r (IsNumeral 10 word × (digits_value 10 word < 2 ^ 64)) (digits_value 10 word)) is (plain word r no_plus parses) in
    let digits = numeral_digits word n spelled.0 in
    none ((digits.some, numerals.to word digits.digits), omega (arith, digits.value, spelled.1, bound))

-- no number begins with a plus
pub spells_no_plus : (word : List ℕ) (most : ℕ) → get_or word 0 0 ≡ 43 → (n : ℕ) → SpellsUpTo most n word → ⊥
spells_no_plus word most plus n spelled =
    let digits = numeral_digits word n spelled.0 in
    let range = digit_at word 0 (numerals.to word digits.digits) digits.some in
    absurd (omega (arith, range.0, plus))
