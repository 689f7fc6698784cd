-- The words of a line of the second version are read exactly as they spell it: those of the table as in the first version, and three lines of its own.
use Rattle.std.proofs.Common.{◌≡◌, ℕ, ◌≤◌, Bool, true, false, ◌&&◌, cond, List, [], ◌∷◌, ◌++◌, Option, None, Some, Result, Ok, Err, refl, sym, ap, ◌∙◌, subst, codes, arith}
use Rattle.std.specs.Prelude.{bytes_eq, find}
use Rattle.std.specs.Option.{ok_or, option_map}
use Rattle.std.proofs.lemmas.Bool.Decides.{nat_tests}
use Rattle.std.proofs.lemmas.Str.Parse.{digit_at}
use Rattle.aio_base.specs.declared.names.Dir.{Dir}
use Rattle.aio_base.specs.declared.names.Dir.TheVariants.{Read, Write, Priority}
use Rattle.aio_base.specs.declared.names.Interest.{Interest}
use Rattle.aio_base.specs.declared.outcomes.Which.TheVariants as which
use Rattle.aio_base.specs.declared.steps.Step.{Step}
use Rattle.aio_base.specs.declared.steps.Step.TheVariants as step
use Rattle.aio_base.specs.Text.{dir_text}
use Rattle.aio_base.specs.Lines.{ADirection, Asked, HasSpelling, Number, SpellAll, Spells, StepWord, Text, and_then, ended, last_number, limit_word, lines, numeral, read, value_of, with_rest, within}
use Rattle.aio_base.proofs.LineTables.{Comes, Held, HeldBack, Leads, Says, Spelling, both_true, comes, held, held_back, is_some, leads, number_within, same_bytes, within_is}
use Rattle.aio_trace.proofs.LineNumbers.{numeral_digits, numerals}
use Rattle.aio_tasks.specs.declared.steps.Line2.{Line2}
use Rattle.aio_tasks.specs.declared.steps.Line2.TheVariants as line
use Rattle.aio_tasks.specs.declared.steps.LineFault2.{LineFault2}
use Rattle.aio_tasks.specs.declared.steps.LineFault2.TheVariants as second
use Rattle.aio_tasks.specs.declared.steps.Step2.TheVariants as step2
use Rattle.aio_tasks.specs.declared.steps.Who.{Who}
use Rattle.aio_tasks.specs.declared.steps.Who.TheVariants.{Called, Numbered}
use Rattle.aio_tasks.specs.Names.{IsName, is_letter, is_name}
use Rattle.aio_tasks.specs.Lines2.{HasSpelling2, all_flags, all_flags_text, event_line, event_read, flags, flags_value, line_for, line_words, name_value, named, number_value, repeat_limit, repeat_read, some_flags, taken, task_line, task_read, times_value, two, who_named, words_read2}

-- ## Words and their values

-- what is found by its text has that text
find_held : {A : Type 0} (text : A → List ℕ) (xs : List A) (word : List ℕ) (x : A) → find (λ a. bytes_eq word (text a)) xs ≡ Some x → word ≡ text x
find_held text [] word x e = absurd cc
find_held text (y ∷ ys) word x e = by_test (bytes_eq word (text y)) refl (find_held text ys word x) e
  where
    by_test : (t : Bool) → bytes_eq word (text y) ≡ t → (find (λ a. bytes_eq word (text a)) ys ≡ Some x → word ≡ text x)
        → cond t (Some y) (find (λ a. bytes_eq word (text a)) ys) ≡ Some x → word ≡ text x
    by_test true is more e = let same : y ≡ x = cc in same_bytes word (text y) is ∙ ap text same
    by_test false other more e = more e

number_held : (word : List ℕ) (n : ℕ) → number_value word ≡ Ok n → (n ≤ last_number) × (numeral word ≡ Some n)
number_held word n e = let is = number_within 0 last_number (numeral word) n (is_some _ _ n e) in (is.2, is.0)

number_back : (word : List ℕ) (n : ℕ) → n ≤ last_number → numeral word ≡ Some n → number_value word ≡ Ok n
number_back word n fits is = ap (λ o. ok_or o second.Number) (within_is 0 last_number n (numeral word) is (omega arith) fits)

times_held : (word : List ℕ) (n : ℕ) → times_value word ≡ Ok n → (1 ≤ n) × (n ≤ repeat_limit) × (numeral word ≡ Some n)
times_held word n e = let is = number_within 1 repeat_limit (numeral word) n (is_some _ _ n e) in (is.1, is.2, is.0)

times_back : (word : List ℕ) (n : ℕ) → 1 ≤ n → n ≤ repeat_limit → numeral word ≡ Some n → times_value word ≡ Ok n
times_back word n some few is = ap (λ o. ok_or o second.Number) (within_is 1 repeat_limit n (numeral word) is some few)

named_held : (word name : List ℕ) → named word ≡ Some name → IsName name × (word ≡ name)
named_held word name e = by_test (is_name word) refl e
  where
    by_test : (t : Bool) → is_name word ≡ t → cond t (Some word) None ≡ Some name → IsName name × (word ≡ name)
    by_test true is e = let same : word ≡ name = cc in (subst IsName same is, same)
    by_test false is e = absurd cc

named_back : (name : List ℕ) → IsName name → named name ≡ Some name
named_back name is = ap (λ t. cond t (Some name) None) is

name_back : (name : List ℕ) → IsName name → name_value name ≡ Ok name
name_back name is = ap (λ o. ok_or o second.Name) (named_back name is)

flags_held : (word : List ℕ) (on : Interest) → flags_value word ≡ Ok on → word ≡ all_flags_text on
flags_held word on e = find_held all_flags_text all_flags word on (is_some _ _ on e)

flags_back : (read write priority : Bool) → flags_value (some_flags read write priority) ≡ Ok (flags read write priority)
flags_back false false false = refl
flags_back true false false = refl
flags_back false true false = refl
flags_back false false true = refl
flags_back true true false = refl
flags_back true false true = refl
flags_back false true true = refl
flags_back true true true = refl

-- ## The waker's place

abbrev who_word : Who → StepWord
who_word (Numbered n) = Number n
who_word (Called name) = Text name

abbrev FitsWho : Who → Type 0
FitsWho (Numbered n) = n ≤ last_number
FitsWho (Called name) = IsName name

abbrev Whose : List ℕ → Who → Type 0
Whose word x = FitsWho x × Spells word (who_word x)

some_of_map : {A B : Type 0} (f : A → B) (o : Option A) (y : B) → option_map f o ≡ Some y → (x : A) × (o ≡ Some x) × (f x ≡ y)
some_of_map f None y e = absurd cc
some_of_map f (Some x) y e = (x, refl, cc)

who_held : (word : List ℕ) (x : Who) → who_named word ≡ Ok x → Whose word x
who_held [] x e = absurd cc
who_held (b ∷ bytes) x e = by_test (is_letter b) e
  where
    by_test : (t : Bool) → cond t (ok_or (option_map Called (named (b ∷ bytes))) second.Name) (ok_or (option_map Numbered (within 0 last_number (numeral (b ∷ bytes)))) second.Number) ≡ Ok x
        → Whose (b ∷ bytes) x
    by_test true e =
        let found = some_of_map Called (named (b ∷ bytes)) x (is_some second.Name _ x e) in
        subst (Whose (b ∷ bytes)) found.2 (named_held (b ∷ bytes) found.0 found.1)
    by_test false e =
        let found = some_of_map Numbered (within 0 last_number (numeral (b ∷ bytes))) x (is_some second.Number _ x e) in
        let is = number_within 0 last_number (numeral (b ∷ bytes)) found.0 found.1 in
        subst (Whose (b ∷ bytes)) found.2 (is.2, is.0)

-- a number begins with no letter
no_letter : (b : ℕ) (bytes : List ℕ) (n : ℕ) → numeral (b ∷ bytes) ≡ Some n → is_letter b ≡ false
no_letter b bytes n is =
    let digits = numeral_digits (b ∷ bytes) n is in
    let range = digit_at (b ∷ bytes) 0 (numerals.to (b ∷ bytes) digits.digits) digits.some in
    let high : b ≤ 57 = range.1 in grind (arith, nat_tests)

who_number_back : (word : List ℕ) (n : ℕ) → n ≤ last_number → numeral word ≡ Some n → who_named word ≡ Ok (Numbered n)
who_number_back [] n fits is = absurd cc
who_number_back (b ∷ bytes) n fits is =
    ap (λ t. cond t (ok_or (option_map Called (named (b ∷ bytes))) second.Name) (ok_or (option_map Numbered (within 0 last_number (numeral (b ∷ bytes)))) second.Number)) (no_letter b bytes n is)
    ∙ ap (λ o. ok_or (option_map Numbered o) second.Number) (within_is 0 last_number n (numeral (b ∷ bytes)) is (omega arith) fits)

who_name_back : (name : List ℕ) → IsName name → who_named name ≡ Ok (Called name)
who_name_back [] is = absurd cc
who_name_back (b ∷ bytes) is =
    ap (λ t. cond t (ok_or (option_map Called (named (b ∷ bytes))) second.Name) (ok_or (option_map Numbered (within 0 last_number (numeral (b ∷ bytes)))) second.Number)) (both_true (is_letter b) _ is).0
    ∙ ap (λ o. ok_or (option_map Called o) second.Name) (named_back (b ∷ bytes) is)

who_back : (word : List ℕ) (x : Who) → FitsWho x → Spells word (who_word x) → who_named word ≡ Ok x
who_back word (Numbered n) fits spelled = who_number_back word n fits spelled
who_back word (Called name) fits spelled = ap who_named spelled ∙ who_name_back name fits

-- ## The places of the table

abbrev spelling : Spelling Who
spelling = record { waker_word = who_word; Waker = FitsWho; Direction = λ dir. Unit {0}; Flags = λ on. ⊥ }

second_held : (place : Asked) → Held two spelling place
second_held = held two spelling who_held
    (λ word dir e. (tt, find_held dir_text (Read ∷ Write ∷ Priority ∷ []) word dir (is_some _ _ dir e)))
    (λ word on e. absurd cc)

dir_back : (dir : Dir) → value_of two ADirection (dir_text dir) ≡ Ok dir
dir_back Read = refl
dir_back Write = refl
dir_back Priority = refl

second_held_back : (place : Asked) → HeldBack two spelling place
second_held_back = held_back two spelling who_back
    (λ word dir fits is. ap (value_of two ADirection) is ∙ dir_back dir)
    (λ word on fits is. absurd fits)

-- ## The table

-- lines whose last word is a waker, a number or a name
poll_says : (k : ℕ) → k ≤ last_number → (d : Dir) (w : Who) → FitsWho w
    → (line_words (line_for w (step.Poll (record { 0 = k }) d (record { 0 = 0 }))) ≡ Text (codes "poll") ∷ Number k ∷ Text (dir_text d) ∷ who_word w ∷ [])
    × HasSpelling2 (line_for w (step.Poll (record { 0 = k }) d (record { 0 = 0 })))
poll_says k fk d (Numbered n) fw = (refl, (fk, fw))
poll_says k fk d (Called name) fw = (refl, ((fk, omega arith), refl, fw))

listener_says : (k : ℕ) → k ≤ last_number → (w : Who) → FitsWho w
    → (line_words (line_for w (step.StepEar k (record { 0 = 0 }))) ≡ Text (codes "step") ∷ Number k ∷ who_word w ∷ []) × HasSpelling2 (line_for w (step.StepEar k (record { 0 = 0 })))
listener_says k fk (Numbered n) fw = (refl, (fk, fw))
listener_says k fk (Called name) fw = (refl, ((fk, omega arith), refl, fw))

tick_says : (k : ℕ) → k ≤ last_number → (w : Who) → FitsWho w
    → (line_words (line_for w (step.Tick k (record { 0 = 0 }))) ≡ Text (codes "tick") ∷ Number k ∷ who_word w ∷ []) × HasSpelling2 (line_for w (step.Tick k (record { 0 = 0 })))
tick_says k fk (Numbered n) fw = (refl, (fk, fw))
tick_says k fk (Called name) fw = (refl, ((fk, omega arith), refl, fw))

begin_says : (l : Option ℕ) → HasSpelling (step.Begin l)
    → (line_words (line.Step (step2.Plain (step.Begin l))) ≡ Text (codes "begin") ∷ limit_word l ∷ []) × HasSpelling2 (line.Step (step2.Plain (step.Begin l)))
begin_says l fit = (refl, fit)

-- each line of the table is spelled as it is read; those of an event are none of them
second_says : Says spelling line_words HasSpelling2 (lines two) []
second_says = (
  (refl, tt),
  (
    (λ k fk. (refl, fk)),
    (
      (λ k fk d fd w fw. poll_says k fk d w fw),
      (
        (λ k fk d fd. (refl, fk)),
        (
          (λ k fk w fw. listener_says k fk w fw),
          (
            (λ k fk. (refl, fk)),
            (
              ((λ t ft. (refl, ft)), ((λ t ft p fp. (refl, (ft, fp))), ((refl, tt), tt))),
              (
                (λ k fk w fw. tick_says k fk w fw),
                (
                  (λ n fn. ((λ t ft. (refl, (fn, ft))), ((λ t ft p fp. (refl, (fn, ft, fp))), tt))),
                  (
                    (λ k fk. (refl, fk)),
                    (
                      (λ t ft. (refl, ft)),
                      (
                        (λ k fk on fon. absurd fon),
                        (
                          ((refl, tt), ((refl, tt), ((refl, tt), ((refl, tt), tt)))),
                          (
                            (refl, tt),
                            (
                              (λ l fl. begin_says l fl),
                              (
                                (refl, tt),
                                (
                                  (refl, tt),
                                  (
                                    (refl, tt),
                                    (
                                      (refl, tt),
                                      tt,
                                    ),
                                  ),
                                ),
                              ),
                            ),
                          ),
                        ),
                      ),
                    ),
                  ),
                ),
              ),
            ),
          ),
        ),
      ),
    ),
  ),
)

-- ## What is read is spelled so

-- a first word was taken, and what was read behind it
record Took {A B : Type 0} (value : List ℕ → Result A LineFault2) (next : A × List (List ℕ) → Result B LineFault2) (words : List (List ℕ)) (b : B) : Type 0 where
  word : List ℕ
  rest : List (List ℕ)
  x : A
  is : words ≡ word ∷ rest
  has : value word ≡ Ok x
  goes : next (x, rest) ≡ Ok b

took : {A B : Type 0} (value : List ℕ → Result A LineFault2) (next : A × List (List ℕ) → Result B LineFault2) (words : List (List ℕ)) (b : B)
    → and_then (taken value words) next ≡ Ok b → Took value next words b
took value next [] b e = absurd cc
took value next (word ∷ rest) b e = by_value (value word) refl e
  where
    by_value : (r : Result _ LineFault2) → value word ≡ r → and_then (with_rest rest r) next ≡ Ok b → Took value next (word ∷ rest) b
    by_value (Ok x) is e = record { word = word; rest = rest; x = x; is = refl; has = is; goes = e }
    by_value (Err f) is e = absurd cc

ends : (m n : Line2) (words : List (List ℕ)) → ended two m words ≡ Ok n → (words ≡ []) × (m ≡ n)
ends m n [] e = (refl, cc)
ends m n (word ∷ words) e = absurd cc

abbrev Comes2 : Line2 → List (List ℕ) → Type 0
Comes2 m words = Comes line_words HasSpelling2 m words

event_comes : (words : List (List ℕ)) (m : Line2) → event_read words ≡ Ok m → Comes2 m (codes "event" ∷ words)
event_comes words m e =
    let a = took number_value (λ k. and_then (taken flags_value k.1) (λ on. ended two (event_line k.0 on.0) on.1)) words m e in
    let b = took flags_value (λ on. ended two (event_line a.x on.0) on.1) a.rest m a.goes in
    let c = ends (event_line a.x b.x) m b.rest b.goes in
    let whole : words ≡ a.word ∷ b.word ∷ [] = a.is ∙ ap (λ r. a.word ∷ r) (b.is ∙ ap (λ r. b.word ∷ r) c.0) in
    let number = number_held a.word a.x a.has in
    subst (λ m. Comes2 m (codes "event" ∷ words)) c.1
    (number.0, subst (λ ws. SpellAll (codes "event" ∷ ws) (line_words (event_line a.x b.x))) (sym whole) (refl, (number.1, (flags_held b.word b.x b.has, tt))))

task_comes : (words : List (List ℕ)) (m : Line2) → task_read words ≡ Ok m → Comes2 m (codes "task" ∷ words)
task_comes words m e =
    let a = took name_value (λ name. and_then (taken number_value name.1) (λ w. ended two (task_line name.0 w.0) w.1)) words m e in
    let b = took number_value (λ w. ended two (task_line a.x w.0) w.1) a.rest m a.goes in
    let c = ends (task_line a.x b.x) m b.rest b.goes in
    let whole : words ≡ a.word ∷ b.word ∷ [] = a.is ∙ ap (λ r. a.word ∷ r) (b.is ∙ ap (λ r. b.word ∷ r) c.0) in
    let name = named_held a.word a.x (is_some _ _ a.x a.has) in
    let number = number_held b.word b.x b.has in
    subst (λ m. Comes2 m (codes "task" ∷ words)) c.1
    ((name.0, number.0), subst (λ ws. SpellAll (codes "task" ∷ ws) (line_words (task_line a.x b.x))) (sym whole) (refl, (name.1, (number.1, tt))))

repeat_comes : (words : List (List ℕ)) (m : Line2) → repeat_read words ≡ Ok m → Comes2 m (codes "repeat" ∷ words)
repeat_comes words m e =
    let a = took times_value (λ n. ended two (line.Repeat n.0) n.1) words m e in
    let c = ends (line.Repeat a.x) m a.rest a.goes in
    let whole : words ≡ a.word ∷ [] = a.is ∙ ap (λ r. a.word ∷ r) c.0 in
    let times = times_held a.word a.x a.has in
    subst (λ m. Comes2 m (codes "repeat" ∷ words)) c.1
    ((times.0, times.1), subst (λ ws. SpellAll (codes "repeat" ∷ ws) (line_words (line.Repeat a.x))) (sym whole) (refl, (times.2, tt)))

abbrev by_command : Bool → Bool → Bool → List ℕ → List (List ℕ) → Result Line2 LineFault2
by_command e t r word words = cond e (event_read words) (cond t (task_read words) (cond r (repeat_read words) (read two (lines two) (word ∷ words))))

-- words that read as a line spell it, and it has a spelling
pub words_come2 : (words : List (List ℕ)) (m : Line2) → words_read2 words ≡ Ok m → Comes2 m words
words_come2 [] m e = absurd cc
words_come2 (word ∷ words) m e = by_tests (bytes_eq word (codes "event")) (bytes_eq word (codes "task")) (bytes_eq word (codes "repeat")) refl refl refl e
  where
    by_tests : (e t r : Bool) → bytes_eq word (codes "event") ≡ e → bytes_eq word (codes "task") ≡ t → bytes_eq word (codes "repeat") ≡ r
        → by_command e t r word words ≡ Ok m → Comes2 m (word ∷ words)
    by_tests true t r is t_is r_is goes = subst (λ w. Comes2 m (w ∷ words)) (sym (same_bytes word (codes "event") is)) (event_comes words m goes)
    by_tests false true r e_is is r_is goes = subst (λ w. Comes2 m (w ∷ words)) (sym (same_bytes word (codes "task") is)) (task_comes words m goes)
    by_tests false false true e_is t_is is goes = subst (λ w. Comes2 m (w ∷ words)) (sym (same_bytes word (codes "repeat") is)) (repeat_comes words m goes)
    by_tests false false false e_is t_is r_is goes =
        comes two spelling line_words HasSpelling2 second_held (lines two) [] [] (word ∷ words) m second_says tt goes

-- ## And back

-- a command that is none of the three own ones
abbrev IsCommon : List ℕ → Type 0
IsCommon text = (bytes_eq text (codes "event") ≡ false) × (bytes_eq text (codes "task") ≡ false) × (bytes_eq text (codes "repeat") ≡ false)

-- words that lead through the table
common : (m : Line2) (text : List ℕ) (ws : List StepWord) → IsCommon text → Leads spelling (lines two) (Text text ∷ ws) m → (words : List (List ℕ)) → SpellAll words (Text text ∷ ws)
    → words_read2 words ≡ Ok m
common m text ws other goes [] spelled = absurd spelled
common m text ws other goes (word ∷ words) spelled =
    ap (λ w. words_read2 (w ∷ words)) spelled.0
    ∙ ap (λ t. by_command t (bytes_eq text (codes "task")) (bytes_eq text (codes "repeat")) text words) other.0
    ∙ ap (λ t. by_command false t (bytes_eq text (codes "repeat")) text words) other.1
    ∙ ap (λ t. by_command false false t text words) other.2
    ∙ leads two spelling second_held_back (lines two) (Text text ∷ ws) m (text ∷ words) goes (refl, spelled.1)

event_back : (k : ℕ) (on : Interest) → k ≤ last_number → (words : List (List ℕ)) → SpellAll words (line_words (event_line k on)) → words_read2 words ≡ Ok (event_line k on)
event_back k on fits [] spelled = absurd spelled
event_back k on fits (c ∷ []) spelled = absurd spelled.1
event_back k on fits (c ∷ word ∷ []) spelled = absurd spelled.1.1
event_back k on fits (c ∷ word ∷ text ∷ []) spelled =
    ap (λ w. words_read2 (w ∷ word ∷ text ∷ [])) spelled.0
    ∙ ap (λ r. and_then (with_rest (text ∷ []) r) (λ k. and_then (taken flags_value k.1) (λ on. ended two (event_line k.0 on.0) on.1))) (number_back word k fits spelled.1.0)
    ∙ ap (λ r. and_then (with_rest [] r) (λ on. ended two (event_line k on.0) on.1)) (ap flags_value spelled.1.1.0 ∙ flags_back on.read on.write on.priority)
event_back k on fits (c ∷ word ∷ text ∷ more ∷ words) spelled = absurd spelled.1.1.1

task_back : (name : List ℕ) (w : ℕ) → IsName name → w ≤ last_number → (words : List (List ℕ)) → SpellAll words (line_words (task_line name w)) → words_read2 words ≡ Ok (task_line name w)
task_back name w is fits [] spelled = absurd spelled
task_back name w is fits (c ∷ []) spelled = absurd spelled.1
task_back name w is fits (c ∷ text ∷ []) spelled = absurd spelled.1.1
task_back name w is fits (c ∷ text ∷ word ∷ []) spelled =
    ap (λ t. words_read2 (t ∷ text ∷ word ∷ [])) spelled.0
    ∙ ap (λ r. and_then (with_rest (word ∷ []) r) (λ name. and_then (taken number_value name.1) (λ w. ended two (task_line name.0 w.0) w.1))) (ap name_value spelled.1.0 ∙ name_back name is)
    ∙ ap (λ r. and_then (with_rest [] r) (λ w. ended two (task_line name w.0) w.1)) (number_back word w fits spelled.1.1.0)
task_back name w is fits (c ∷ text ∷ word ∷ more ∷ words) spelled = absurd spelled.1.1.1

repeat_back : (n : ℕ) → 1 ≤ n → n ≤ repeat_limit → (words : List (List ℕ)) → SpellAll words (line_words (line.Repeat n)) → words_read2 words ≡ Ok (line.Repeat n)
repeat_back n some few [] spelled = absurd spelled
repeat_back n some few (c ∷ []) spelled = absurd spelled.1
repeat_back n some few (c ∷ word ∷ []) spelled =
    ap (λ t. words_read2 (t ∷ word ∷ [])) spelled.0
    ∙ ap (λ r. and_then (with_rest [] r) (λ n. ended two (line.Repeat n.0) n.1)) (times_back word n some few spelled.1.0)
repeat_back n some few (c ∷ word ∷ more ∷ words) spelled = absurd spelled.1.1

-- words that spell a line which has a spelling read as it
pub words_back2 : (m : Line2) → HasSpelling2 m → (words : List (List ℕ)) → SpellAll words (line_words m) → words_read2 words ≡ Ok m
words_back2 (line.Step (step2.Plain step.Add)) fits = common _ (codes "add") [] (refl, refl, refl) refl
words_back2 (line.Step (step2.Plain (step.Del key))) fits = common _ (codes "del") _ (refl, refl, refl) (key.0, fits, refl, refl)
words_back2 (line.Step (step2.Plain (step.Poll key dir waker))) fits = common _ (codes "poll") _ (refl, refl, refl) (key.0, fits.0, refl, (dir, tt, refl, (Numbered waker.0, fits.1, refl, refl)))
words_back2 (line.Step (step2.Plain (step.New key dir))) fits = common _ (codes "new") _ (refl, refl, refl) (key.0, fits, refl, (dir, tt, refl, refl))
words_back2 (line.Step (step2.Plain (step.StepEar number waker))) fits = common _ (codes "step") _ (refl, refl, refl) (number, fits.0, refl, (Numbered waker.0, fits.1, refl, refl))
words_back2 (line.Step (step2.Plain (step.DropEar number))) fits = common _ (codes "drop") _ (refl, refl, refl) (number, fits, refl, refl)
words_back2 (line.Step (step2.Plain (step.TimerAt deadline))) fits = common _ (codes "timer") _ (refl, refl, refl) (deadline, fits, refl, refl)
words_back2 (line.Step (step2.Plain (step.TimerEvery deadline period))) fits = common _ (codes "timer") _ (refl, refl, refl) (deadline, fits.0, refl, (period, fits.1, refl, refl))
words_back2 (line.Step (step2.Plain step.TimerNever)) fits = common _ (codes "timer") _ (refl, refl, refl) refl
words_back2 (line.Step (step2.Plain (step.Tick number waker))) fits = common _ (codes "tick") _ (refl, refl, refl) (number, fits.0, refl, (Numbered waker.0, fits.1, refl, refl))
words_back2 (line.Step (step2.Plain (step.SetAt number deadline))) fits = common _ (codes "set") _ (refl, refl, refl) (number, fits.0, refl, (deadline, fits.1, refl, refl))
words_back2 (line.Step (step2.Plain (step.SetEvery number deadline period))) fits =
    common _ (codes "set") _ (refl, refl, refl) (number, fits.0, refl, (deadline, fits.1, refl, (period, fits.2, refl, refl)))
words_back2 (line.Step (step2.Plain (step.End number))) fits = common _ (codes "end") _ (refl, refl, refl) (number, fits, refl, refl)
words_back2 (line.Step (step2.Plain (step.Now moment))) fits = common _ (codes "now") _ (refl, refl, refl) (moment, fits, refl, refl)
words_back2 (line.Step (step2.Plain (step.Note event))) fits = event_back event.key.0 event.on fits
words_back2 (line.Step (step2.Plain (step.Fault which.Add))) fits = common _ (codes "fault") _ (refl, refl, refl) refl
words_back2 (line.Step (step2.Plain (step.Fault which.Arm))) fits = common _ (codes "fault") _ (refl, refl, refl) refl
words_back2 (line.Step (step2.Plain (step.Fault which.Remove))) fits = common _ (codes "fault") _ (refl, refl, refl) refl
words_back2 (line.Step (step2.Plain (step.Fault which.Wait))) fits = common _ (codes "fault") _ (refl, refl, refl) refl
words_back2 (line.Step (step2.Plain step.Interrupt)) fits = common _ (codes "interrupt") _ (refl, refl, refl) refl
words_back2 (line.Step (step2.Plain (step.Begin limit))) fits = common _ (codes "begin") _ (refl, refl, refl) (limit, fits, refl, refl)
words_back2 (line.Step (step2.Plain step.Wait)) fits = common _ (codes "wait") _ (refl, refl, refl) refl
words_back2 (line.Step (step2.Plain step.Handle)) fits = common _ (codes "handle") _ (refl, refl, refl) refl
words_back2 (line.Step (step2.Plain step.Finish)) fits = common _ (codes "finish") _ (refl, refl, refl) refl
words_back2 (line.Step (step2.Plain step.React)) fits = common _ (codes "react") _ (refl, refl, refl) refl
words_back2 (line.Step (step2.Named (step.Poll key dir waker) name)) fits =
    common _ (codes "poll") _ (refl, refl, refl)
    (key.0, fits.0.0, refl, (dir, tt, refl, (Called name, fits.2, refl, ap (λ w. line.Step (step2.Named (step.Poll key dir (record { 0 = w })) name)) (sym fits.1))))
words_back2 (line.Step (step2.Named (step.StepEar number waker) name)) fits =
    common _ (codes "step") _ (refl, refl, refl) (number, fits.0.0, refl, (Called name, fits.2, refl, ap (λ w. line.Step (step2.Named (step.StepEar number (record { 0 = w })) name)) (sym fits.1)))
words_back2 (line.Step (step2.Named (step.Tick number waker) name)) fits =
    common _ (codes "tick") _ (refl, refl, refl) (number, fits.0.0, refl, (Called name, fits.2, refl, ap (λ w. line.Step (step2.Named (step.Tick number (record { 0 = w })) name)) (sym fits.1)))
words_back2 (line.Step (step2.Named _ name)) fits = absurd fits.1
words_back2 (line.Step (step2.Task name waker)) fits = task_back name waker.0 fits.0 fits.1
words_back2 (line.Repeat times) fits = repeat_back times fits.0 fits.1
