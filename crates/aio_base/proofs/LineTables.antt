-- What a table of lines reads is what its lines are spelled as, for each version at once: by what may follow, and not by the lines.
use Rattle.std.proofs.Common.{◌≡◌, ℕ, ◌≤◌, Bool, true, false, ◌&&◌, cond, leb, List, [], ◌∷◌, ◌++◌, Option, None, Some, Result, Ok, Err, refl, sym, ap, ◌∙◌, subst, append_assoc, append-nil, codes, arith}
use Rattle.std.specs.Prelude.{bytes_eq}
use Rattle.std.specs.Option.{ok_or, option_map}
use Rattle.std.proofs.lemmas.Bool.{leb-true, le-leb}
use Rattle.std.proofs.lemmas.Slice.Eq.{bytes_eq-Decides}
use Rattle.aio_base.specs.declared.names.Dir.{Dir}
use Rattle.aio_base.specs.declared.names.Interest.{Interest}
use Rattle.aio_base.specs.declared.steps.LineFault.TheVariants as fault
use Rattle.aio_base.specs.declared.steps.Step.TheVariants as step
use Rattle.aio_base.specs.World.{last_moment}
use Rattle.aio_base.specs.Text.{dir_text, flags_text}
use Rattle.aio_base.specs.Lines.{numeral, is_from_to, last_number, IsPeriod, HasSpelling, StepWord, Text, Number, limit_word, Spells, SpellAll, Asked, ANumber, AWaker, AMoment, APeriod, ALimit, ADirection, SomeFlags, Value, within, limit_named, Rest, Done, Place, Word, Wrong, Version, value_of, and_then, with_rest, read}

pub same_bytes : (a b : List ℕ) → bytes_eq a b ≡ true → a ≡ b
same_bytes a b = (bytes_eq-Decides a b).0

pub both_true : (a b : Bool) → (a && b) ≡ true → (a ≡ true) × (b ≡ true)
both_true true b e = (refl, e)
both_true false b e = absurd cc

-- ## Values and their words

-- what a version spells in its own way: a waker; and which wakers, directions and directions of an event it spells
pub record Spelling (W : Type 0) : Type 1 where
  pub waker_word : W → StepWord
  pub Waker : W → Type 0
  pub Direction : Dir → Type 0
  pub Flags : Interest → Type 0

-- the word of a value in a place
abbrev pub word_for : {W : Type 0} → Spelling W → (place : Asked) → Value W place → StepWord
word_for sp ANumber n = Number n
word_for sp AWaker w = sp.waker_word w
word_for sp AMoment n = Number n
word_for sp APeriod n = Number n
word_for sp ALimit limit = limit_word limit
word_for sp ADirection dir = Text (dir_text dir)
word_for sp SomeFlags on = Text (flags_text on)

-- a value that a place may hold
abbrev pub Fits : {W : Type 0} → Spelling W → (place : Asked) → Value W place → Type 0
Fits sp ANumber n = n ≤ last_number
Fits sp AWaker w = sp.Waker w
Fits sp AMoment n = n ≤ last_moment
Fits sp APeriod n = IsPeriod n
Fits sp ALimit limit = HasSpelling (step.Begin limit)
Fits sp ADirection dir = sp.Direction dir
Fits sp SomeFlags on = sp.Flags on

-- a word that reads as a value spells it, and the place may hold it
abbrev pub Held : {L F W : Type 0} → Version L F W → Spelling W → Asked → Type 0
Held {L} {F} {W} v sp place = (word : List ℕ) (x : Value W place) → value_of v place word ≡ Ok x → Fits sp place x × Spells word (word_for sp place x)

-- and a word that spells a value which the place may hold reads as it
abbrev pub HeldBack : {L F W : Type 0} → Version L F W → Spelling W → Asked → Type 0
HeldBack {L} {F} {W} v sp place = (word : List ℕ) (x : Value W place) → Fits sp place x → Spells word (word_for sp place x) → value_of v place word ≡ Ok x

pub is_some : {A F : Type 0} (f : F) (o : Option A) (x : A) → ok_or o f ≡ Ok x → o ≡ Some x
is_some f None x e = absurd cc
is_some f (Some y) x e = let same : y ≡ x = cc in ap Some same

pub number_within : (low high : ℕ) (o : Option ℕ) (n : ℕ) → within low high o ≡ Some n → (o ≡ Some n) × (low ≤ n) × (n ≤ high)
number_within low high None n e = absurd cc
number_within low high (Some m) n e = by_test (is_from_to low high m) refl e
  where
    by_test : (t : Bool) → (leb low m && leb m high) ≡ t → cond t (Some m) None ≡ Some n → (Some m ≡ Some n) × (low ≤ n) × (n ≤ high)
    by_test true both e =
        let same : m ≡ n = cc in
        let t = both_true (leb low m) (leb m high) both in
        (e, subst (λ k. low ≤ k) same (leb-true low m t.0), subst (λ k. k ≤ high) same (leb-true m high t.1))
    by_test false other e = absurd cc

pub within_is : (low high n : ℕ) (o : Option ℕ) → o ≡ Some n → low ≤ n → n ≤ high → within low high o ≡ Some n
within_is low high n o is some small = ap (within low high) is ∙ rw (le-leb low n some, le-leb n high small) refl

-- a limit
abbrev IsLimit : List ℕ → Option ℕ → Type 0
IsLimit word limit = HasSpelling (step.Begin limit) × Spells word (limit_word limit)

limit_held : (word : List ℕ) (limit : Option ℕ) → limit_named word ≡ Some limit → IsLimit word limit
limit_held word limit e = by_test (bytes_eq word (codes "none")) refl (within 0 last_moment (numeral word)) refl e
  where
    by_test : (none : Bool) → bytes_eq word (codes "none") ≡ none → (o : Option ℕ) → within 0 last_moment (numeral word) ≡ o
        → cond none (Some None) (option_map (λ n. Some n) o) ≡ Some limit → IsLimit word limit
    by_test true is o small e = let same : None ≡ limit = cc in subst (IsLimit word) same (tt, same_bytes word (codes "none") is)
    by_test false other None small e = absurd cc
    by_test false other (Some n) small e =
        let same : Some n ≡ limit = cc in
        let is = number_within 0 last_moment (numeral word) n small in
        subst (IsLimit word) same (is.2, is.0)

-- a number is no `none`
number_is_not_none : (word : List ℕ) (n : ℕ) → numeral word ≡ Some n → bytes_eq word (codes "none") ≡ false
number_is_not_none word n is = by_test (bytes_eq word (codes "none")) refl
  where
    by_test : (t : Bool) → bytes_eq word (codes "none") ≡ t → t ≡ false
    by_test false e = refl
    by_test true e = let no : None ≡ Some n = ap numeral (sym (same_bytes word (codes "none") e)) ∙ is in absurd cc

limit_back : (word : List ℕ) (limit : Option ℕ) → IsLimit word limit → limit_named word ≡ Some limit
limit_back word None is = ap limit_named is.1
limit_back word (Some n) is =
    ap (λ t. cond t (Some None) (option_map (λ n. Some n) (within 0 last_moment (numeral word)))) (number_is_not_none word n is.1)
    ∙ ap (option_map (λ n. Some n)) (within_is 0 last_moment n (numeral word) is.1 (omega arith) is.0)

-- each place is held where those are that a version spells in its own way
pub held : {L F W : Type 0} (v : Version L F W) (sp : Spelling W) → Held v sp AWaker → Held v sp ADirection → Held v sp SomeFlags → (place : Asked) → Held v sp place
held v sp waker direction flags ANumber = λ word n e. let is = number_within 0 last_number (numeral word) n (is_some _ _ n e) in (is.2, is.0)
held v sp waker direction flags AWaker = waker
held v sp waker direction flags AMoment = λ word n e. let is = number_within 0 last_moment (numeral word) n (is_some _ _ n e) in (is.2, is.0)
held v sp waker direction flags APeriod = λ word n e. let is = number_within 1 last_moment (numeral word) n (is_some _ _ n e) in ((is.1, is.2), is.0)
held v sp waker direction flags ALimit = λ word limit e. limit_held word limit (is_some _ _ limit e)
held v sp waker direction flags ADirection = direction
held v sp waker direction flags SomeFlags = flags

pub held_back : {L F W : Type 0} (v : Version L F W) (sp : Spelling W) → HeldBack v sp AWaker → HeldBack v sp ADirection → HeldBack v sp SomeFlags → (place : Asked) → HeldBack v sp place
held_back v sp waker direction flags ANumber = λ word n fits is. ap (λ o. ok_or o (v.fault fault.Number)) (within_is 0 last_number n (numeral word) is (omega arith) fits)
held_back v sp waker direction flags AWaker = waker
held_back v sp waker direction flags AMoment = λ word n fits is. ap (λ o. ok_or o (v.fault fault.Number)) (within_is 0 last_moment n (numeral word) is (omega arith) fits)
held_back v sp waker direction flags APeriod = λ word n fits is. ap (λ o. ok_or o (v.fault fault.Number)) (within_is 1 last_moment n (numeral word) is fits.0 fits.1)
held_back v sp waker direction flags ALimit = λ word limit fits is. ap (λ o. ok_or o (v.fault fault.Number)) (limit_back word limit (fits, is))
held_back v sp waker direction flags ADirection = direction
held_back v sp waker direction flags SomeFlags = flags

-- ## What is read is spelled so

-- what a table has to meet: each line that may come of it, behind words like these, is spelled by them and its own, and can be spelled
abbrev pub Says : {L F W : Type 0} → Spelling W → (L → List StepWord) → (L → Type 0) → Rest L F W → List StepWord → Type 0
Says sp words Spelled (Done l) front = (words l ≡ front) × Spelled l
Says {L} {F} {W} sp words Spelled (Place place behind) front = (x : Value W place) → Fits sp place x → Says sp words Spelled (behind x) (front ++ word_for sp place x ∷ [])
Says sp words Spelled (Word text first others) front = Says sp words Spelled first (front ++ Text text ∷ []) × Says sp words Spelled others front
Says sp words Spelled (Wrong f) front = Unit {0}

spell_more : (before : List (List ℕ)) (front : List StepWord) (word : List ℕ) (w : StepWord) → SpellAll before front → Spells word w → SpellAll (before ++ word ∷ []) (front ++ w ∷ [])
spell_more [] [] word w spelled one = (one, tt)
spell_more [] (x ∷ front) word w spelled one = absurd spelled
spell_more (b ∷ before) [] word w spelled one = absurd spelled
spell_more (b ∷ before) (x ∷ front) word w spelled one = (spelled.0, spell_more before front word w spelled.1 one)

-- a line that can be spelled, by these words
abbrev pub Comes : {L : Type 0} → (L → List StepWord) → (L → Type 0) → L → List (List ℕ) → Type 0
Comes words Spelled l all = Spelled l × SpellAll all (words l)

pub comes : {L F W : Type 0} (v : Version L F W) (sp : Spelling W) (words : L → List StepWord) (Spelled : L → Type 0) → ((place : Asked) → Held v sp place)
    → (r : Rest L F W) (front : List StepWord) (before left : List (List ℕ)) (l : L) → Says sp words Spelled r front → SpellAll before front → read v r left ≡ Ok l → Comes words Spelled l (before ++ left)
comes v sp words Spelled held (Done m) front before [] l says spelled e =
    let same : m ≡ l = cc in
    subst (λ x. Comes words Spelled x (before ++ [])) same (says.1, subst (λ ws. SpellAll (before ++ []) ws) (sym says.0) (subst (λ b. SpellAll b front) (sym (append-nil before)) spelled))
comes v sp words Spelled held (Done m) front before (word ∷ left) l says spelled e = absurd cc
comes v sp words Spelled held (Place place behind) front before [] l says spelled e = absurd cc
comes v sp words Spelled held (Place place behind) front before (word ∷ left) l says spelled e =
    by_value (value_of v place word) refl (λ x is goes.
    let one = held place word x is in
    subst (λ all. Comes words Spelled l all) (append_assoc before (word ∷ []) left)
    (comes v sp words Spelled held (behind x) (front ++ word_for sp place x ∷ []) (before ++ word ∷ []) left l (says x one.0) (spell_more before front word (word_for sp place x) spelled one.1) goes)) e
  where
    by_value : (o : Result (Value _ place) _) → value_of v place word ≡ o
        → ((x : Value _ place) → value_of v place word ≡ Ok x → read v (behind x) left ≡ Ok l → Comes words Spelled l (before ++ word ∷ left))
        → and_then (with_rest left o) (λ x. read v (behind x.0) x.1) ≡ Ok l → Comes words Spelled l (before ++ word ∷ left)
    by_value (Ok x) is next e = next x is e
    by_value (Err f) is next e = absurd cc
comes v sp words Spelled held (Word text first others) front before [] l says spelled e = absurd cc
comes v sp words Spelled held (Word text first others) front before (word ∷ left) l says spelled e =
    by_test (bytes_eq word text) refl (λ is goes.
    subst (λ all. Comes words Spelled l all) (append_assoc before (word ∷ []) left)
    (comes v sp words Spelled held first (front ++ Text text ∷ []) (before ++ word ∷ []) left l says.0 (spell_more before front word (Text text) spelled (same_bytes word text is)) goes))
    (λ goes. comes v sp words Spelled held others front before (word ∷ left) l says.1 spelled goes) e
  where
    by_test : (t : Bool) → bytes_eq word text ≡ t → (bytes_eq word text ≡ true → read v first left ≡ Ok l → Comes words Spelled l (before ++ word ∷ left))
        → (read v others (word ∷ left) ≡ Ok l → Comes words Spelled l (before ++ word ∷ left))
        → cond t (read v first left) (read v others (word ∷ left)) ≡ Ok l → Comes words Spelled l (before ++ word ∷ left)
    by_test true is took passed e = took is e
    by_test false is took passed e = passed e
comes v sp words Spelled held (Wrong f) front before [] l says spelled e = absurd cc
comes v sp words Spelled held (Wrong f) front before (word ∷ left) l says spelled e = absurd cc

-- ## What is spelled so is read

abbrev pub Either : Bool → Type 0 → Type 0 → Type 0
Either true A B = A
Either false A B = B

-- these words lead through a table to a line
abbrev pub Leads : {L F W : Type 0} → Spelling W → Rest L F W → List StepWord → L → Type 0
Leads sp (Done m) [] l = m ≡ l
Leads sp (Done m) (w ∷ ws) l = ⊥
Leads sp (Place place behind) [] l = ⊥
Leads {L} {F} {W} sp (Place place behind) (w ∷ ws) l = (x : Value W place) × Fits sp place x × (w ≡ word_for sp place x) × Leads sp (behind x) ws l
Leads sp (Word text first others) [] l = ⊥
Leads sp (Word text first others) (Text said ∷ ws) l = Either (bytes_eq said text) (Leads sp first ws l) (Leads sp others (Text said ∷ ws) l)
Leads sp (Word text first others) (Number n ∷ ws) l = ⊥
Leads sp (Wrong f) ws l = ⊥

pub leads : {L F W : Type 0} (v : Version L F W) (sp : Spelling W) → ((place : Asked) → HeldBack v sp place) → (r : Rest L F W) (ws : List StepWord) (l : L) (words : List (List ℕ))
    → Leads sp r ws l → SpellAll words ws → read v r words ≡ Ok l
leads v sp back (Done m) [] l [] goes spelled = ap Ok goes
leads v sp back (Done m) [] l (word ∷ words) goes spelled = absurd spelled
leads v sp back (Done m) (w ∷ ws) l words goes spelled = absurd goes
leads v sp back (Place place behind) [] l words goes spelled = absurd goes
leads v sp back (Place place behind) (w ∷ ws) l [] goes spelled = absurd spelled
leads v sp back (Place place behind) (w ∷ ws) l (word ∷ words) goes spelled =
    ap (λ o. and_then (with_rest words o) (λ x. read v (behind x.0) x.1)) (back place word goes.0 goes.1 (subst (λ w. Spells word w) goes.2 spelled.0))
    ∙ leads v sp back (behind goes.0) ws l words goes.3 spelled.1
leads v sp back (Word text first others) [] l words goes spelled = absurd goes
leads v sp back (Word text first others) (Text said ∷ ws) l [] goes spelled = absurd spelled
leads v sp back (Word text first others) (Text said ∷ ws) l (word ∷ words) goes spelled =
    ap (λ w. cond (bytes_eq w text) (read v first words) (read v others (w ∷ words))) spelled.0
    ∙ by_test (bytes_eq said text) goes (λ goes. leads v sp back first ws l words goes spelled.1)
    (λ goes. leads v sp back others (Text said ∷ ws) l (said ∷ words) goes (refl, spelled.1))
  where
    by_test : (t : Bool) → Either t (Leads sp first ws l) (Leads sp others (Text said ∷ ws) l) → (Leads sp first ws l → read v first words ≡ Ok l)
        → (Leads sp others (Text said ∷ ws) l → read v others (said ∷ words) ≡ Ok l) → cond t (read v first words) (read v others (said ∷ words)) ≡ Ok l
    by_test true goes took passed = took goes
    by_test false goes took passed = passed goes
leads v sp back (Word text first others) (Number n ∷ ws) l words goes spelled = absurd goes
leads v sp back (Wrong f) ws l words goes spelled = absurd goes
