-- The words of a text, from its front.
use Rattle.std.proofs.Common.{◌≡◌, ℕ, zero, suc, ◌+◌, ◌<◌, ◌≤◌, Bool, true, false, List, [], ◌∷◌, ◌++◌, length, get_or, take, drop, refl, sym, ap, ◌∙◌, arith, filter, length-append, add-zero}
use Rattle.std.specs.List.{All, slice_split}
use Rattle.std.proofs.lemmas.List.{drop_more, take-append-drop, take-append-le, length-take-le, get_or_append_left, get_or-append-add, get_or-take, append-nil}
use Rattle.std.proofs.lemmas.List.Splits.{slice_split-cons_yes, slice_split_at, slice_split_none}
use Rattle.aio_base.specs.Lines.{is_blank, is_word, words_in}

-- a blank in front parts nothing
pub words_behind_blank : (b : ℕ) (bytes : List ℕ) → is_blank b ≡ true → words_in (b ∷ bytes) ≡ words_in bytes
words_behind_blank b bytes blank = ap (filter is_word) (slice_split-cons_yes is_blank b bytes blank)

pub words_past_blank : (text : List ℕ) (at : ℕ) → at < length text → is_blank (get_or text at 0) ≡ true → words_in (drop at text) ≡ words_in (drop (at + 1) text)
words_past_blank text at within blank = ap words_in (drop_more text at 0 within) ∙ words_behind_blank (get_or text at 0) (drop (at + 1) text) blank

-- a text that ends is nothing but blanks has no word
pub no_words : words_in [] ≡ []
no_words = refl

first_kept : (word : List ℕ) (words : List (List ℕ)) → 0 < length word → filter is_word (word ∷ words) ≡ word ∷ filter is_word words
first_kept [] words some = absurd (omega arith)
first_kept (b ∷ bytes) words some = refl

-- a text without a blank is one word
pub words_of_one : (text : List ℕ) → 0 < length text → All (λ b. is_blank b ≡ false) text → words_in text ≡ text ∷ []
words_of_one text some solid = ap (filter is_word) (slice_split_none is_blank text solid) ∙ first_kept text [] some

-- a word, and what follows it from its blank on
pub words_of_first : (word : List ℕ) (b : ℕ) (bytes : List ℕ) → 0 < length word → All (λ b. is_blank b ≡ false) word → is_blank b ≡ true
    → words_in (word ++ (b ∷ bytes)) ≡ word ∷ words_in (b ∷ bytes)
words_of_first word b bytes some solid blank =
    ap (filter is_word) (slice_split_at is_blank word b bytes solid blank) ∙ first_kept word (slice_split is_blank bytes) some
    ∙ ap (λ words. word ∷ words) (sym (words_behind_blank b bytes blank))

pub words_at_blank : (text : List ℕ) (at : ℕ) → 0 < at → at < length text → All (λ b. is_blank b ≡ false) (take at text) → is_blank (get_or text at 0) ≡ true
    → words_in text ≡ take at text ∷ words_in (drop at text)
words_at_blank text at some within solid blank =
    let b = get_or text at 0 in
    let parts : text ≡ take at text ++ (b ∷ drop (at + 1) text) = sym (take-append-drop at text) ∙ ap (λ rest. take at text ++ rest) (drop_more text at 0 within) in
    let long : 0 < length (take at text) = omega (arith, length-take-le at text (omega arith)) in
    ap words_in parts ∙ words_of_first (take at text) b (drop (at + 1) text) long solid blank
    ∙ ap (λ rest. take at text ∷ words_in rest) (sym (drop_more text at 0 within))

-- ## The first word of any text

-- the bytes before a text's first blank, and the rest
pub record FirstWord (text : List ℕ) : Type 0 where
  pub word : List ℕ
  pub rest : List ℕ
  pub parts : text ≡ word ++ rest
  pub solid : All (λ b. is_blank b ≡ false) word
  pub stops : 0 < length rest → is_blank (get_or rest 0 0) ≡ true

one_more : (b : ℕ) (bytes : List ℕ) → is_blank b ≡ false → All (λ b. is_blank b ≡ false) bytes → All (λ b. is_blank b ≡ false) (b ∷ bytes)
one_more b bytes first others zero d within = first
one_more b bytes first others (suc k) d within = others k d (omega arith)

first_word_by : (b : ℕ) (bytes : List ℕ) → FirstWord bytes → (test : Bool) → is_blank b ≡ test → FirstWord (b ∷ bytes)
first_word_by b bytes w true blank = record { word = []; rest = b ∷ bytes; parts = refl; solid = λ k d within. absurd (omega arith); stops = λ some. blank }
first_word_by b bytes w false other =
    record { word = b ∷ w.word; rest = w.rest; parts = ap (λ rest. b ∷ rest) w.parts; solid = one_more b w.word other w.solid; stops = w.stops }

pub first_word : (text : List ℕ) → FirstWord text
first_word [] = record { word = []; rest = []; parts = refl; solid = λ k d within. absurd (omega arith); stops = λ some. absurd (omega arith) }
first_word (b ∷ bytes) = first_word_by b bytes (first_word bytes) (is_blank b) refl

words_by_rest : (word rest : List ℕ) → 0 < length word → All (λ b. is_blank b ≡ false) word → (0 < length rest → is_blank (get_or rest 0 0) ≡ true)
    → words_in (word ++ rest) ≡ word ∷ words_in rest
words_by_rest word [] some solid stops = ap words_in (append-nil word) ∙ words_of_one word some solid
words_by_rest word (b ∷ bytes) some solid stops = words_of_first word b bytes some solid (stops (omega arith))

-- it is the first of the text's words, where it has a byte
pub words_of_text : (text : List ℕ) (w : FirstWord text) → 0 < length w.word → words_in text ≡ w.word ∷ words_in w.rest
words_of_text text w some = ap words_in w.parts ∙ words_by_rest w.word w.rest some w.solid w.stops

-- bytes without a blank at a text's front are of its first word
pub reaches : (text : List ℕ) (w : FirstWord text) (at : ℕ) → at < length text → All (λ b. is_blank b ≡ false) (take (at + 1) text) → at < length w.word
reaches text w at within solid = omega (arith, stays)
  where
    stays : length w.word ≤ at → ⊥
    stays past =
        let n = length w.word in
        let long : length text ≡ n + length w.rest = ap length w.parts ∙ length-append w.word w.rest in
        let blank : is_blank (get_or w.rest 0 0) ≡ true = w.stops (omega arith) in
        let here : get_or text n 0 ≡ get_or w.rest 0 0 = ap (λ t. get_or t n 0) w.parts ∙ ap (λ i. get_or (w.word ++ w.rest) i 0) (sym (add-zero n)) ∙ get_or-append-add w.word w.rest 0 0 in
        let taken : get_or (take (at + 1) text) n 0 ≡ get_or text n 0 = get_or-take (at + 1) text n 0 (omega arith) in
        let other : is_blank (get_or (take (at + 1) text) n 0) ≡ false = solid n 0 (omega (arith, length-take-le (at + 1) text (omega arith))) in
        let both : true ≡ false = sym blank ∙ ap is_blank (sym (taken ∙ here)) ∙ other in
        absurd cc

pub byte_of_word : (text : List ℕ) (w : FirstWord text) (at : ℕ) → at < length w.word → get_or w.word at 0 ≡ get_or text at 0
byte_of_word text w at within = sym (get_or_append_left w.word w.rest 0 at within) ∙ ap (λ t. get_or t at 0) (sym w.parts)

pub front_of_word : (text : List ℕ) (w : FirstWord text) (len : ℕ) → len ≤ length w.word → take len w.word ≡ take len text
front_of_word text w len within = sym (take-append-le len w.word w.rest within) ∙ ap (take len) (sym w.parts)

-- a blank is not at the first place of a text that begins with another byte
pub not_at_first : (text : List ℕ) (at : ℕ) → (0 < length text → is_blank (get_or text 0 0) ≡ false) → at < length text → is_blank (get_or text at 0) ≡ true → 0 < at
not_at_first text zero first within blank = let other = first within in absurd cc
not_at_first text (suc k) first within blank = omega arith
