-- What reading, writing and comparing say of a line in its one spelling.
use Rattle.std.proofs.Common.{◌≡◌, ℕ, ◌<◌, ◌≤◌, Bool, true, false, ◌&&◌, ◌↔◌, List, ◌++◌, take, drop, Option, None, Some, Result, Ok, Err, refl, sym, ap, ◌∙◌, subst, arith, codes, decimal, take-append-drop}
use Rattle.std.specs.Prelude.{bytes_eq, option_and_then}
use Rattle.std.specs.Result.{result_ok}
use Rattle.std.proofs.lemmas.Bool.{true≢false}
use Rattle.std.proofs.lemmas.Slice.Eq.{bytes_eq-Decides}
use Rattle.aio_base.specs.declared.names.Event.{Event}
use Rattle.aio_base.specs.declared.steps.Answer.TheVariants as answer
use Rattle.aio_base.specs.declared.steps.LineFault.{LineFault}
use Rattle.aio_base.specs.declared.steps.Step.{Step}
use Rattle.aio_base.specs.declared.steps.Step.TheVariants as step
use Rattle.aio_base.specs.Lines.{HasSpelling, IsInRange, NamesNoPriority, Reads, step_read, written_line}
use Rattle.aio_base.specs.Text.{answer_line}
use Rattle.aio_base.proofs.FirstLines.{is_read, read_is}
use Rattle.aio_trace.proofs.Ranges.{in_range}
use Rattle.aio_log.specs.Entries.{got_line, has_entry}
use Rattle.aio_log.specs.Places.{event_of, given_in, noted_in, step_of, when}
use Rattle.aio_log.proofs.Tests.{is_given, same_text}
use Rattle.aio_log.proofs.WrittenBack.{given_back}

-- ## What a line reads as

-- as `read_line` says it
abbrev pub IsRead : List ℕ → Result Step LineFault → Type 0
IsRead line read = (s : Step) → Reads s line ↔ (read ≡ Ok s)

none_read : (line : List ℕ) (f : LineFault) (found : Option Step) → step_read line ≡ found → IsRead line (Err f) → found ≡ None
none_read line f None is each = refl
none_read line f (Some s) is each = let wrong = (each s).0 (is_read s line is) in absurd cc

pub read_found : (line : List ℕ) (read : Result Step LineFault) → IsRead line read → step_read line ≡ result_ok read
read_found line (Ok s) each = read_is s line ((each s).1 refl)
read_found line (Err f) each = none_read line f (step_read line) refl each

abbrev stepping : List ℕ → Option Step → Option Step
stepping line read = option_and_then (λ (s : Step). when (has_entry s && bytes_eq line (written_line s)) s) read

pub no_step : (line : List ℕ) (f : LineFault) → IsRead line (Err f) → None ≡ step_of line
no_step line f each = sym (ap (stepping line) (read_found line (Err f) each))

and_true : (a b : Bool) → a ≡ true → a && b ≡ b
and_true a b e = rw e refl

and_no : (a b : Bool) → a ≡ false → a && b ≡ false
and_no a b e = rw e refl

pub no_entry : (line : List ℕ) (s : Step) → IsRead line (Ok s) → has_entry s ≡ false → None ≡ step_of line
no_entry line s each none =
    sym (ap (stepping line) (read_found line (Ok s) each) ∙ ap (λ t. when t s) (and_no (has_entry s) (bytes_eq line (written_line s)) none))

pub step_found : (line : List ℕ) (s : Step) (right : Bool) → IsRead line (Ok s) → has_entry s ≡ true → right ≡ bytes_eq line (written_line s) → when right s ≡ step_of line
step_found line s right each some is =
    ap (λ t. when t s) is
    ∙ sym (ap (stepping line) (read_found line (Ok s) each) ∙ ap (λ t. when t s) (and_true (has_entry s) (bytes_eq line (written_line s)) some))

pub spelling_of : (line : List ℕ) (s : Step) → IsRead line (Ok s) → HasSpelling s
spelling_of line s each = ((each s).1 refl).in_range

pub range_of : (line : List ℕ) (s : Step) → IsRead line (Ok s) → IsInRange s
range_of line s each = in_range s (spelling_of line s each)

no_priority : (s : Step) → HasSpelling s → NamesNoPriority s
no_priority (step.Poll key dir waker) spelled = spelled.1
no_priority (step.New key dir) spelled = spelled.1
no_priority (step.Note event) spelled = spelled.1
no_priority _ spelled = tt

pub names_of : (line : List ℕ) (s : Step) → IsRead line (Ok s) → NamesNoPriority s
names_of line s each = no_priority s (spelling_of line s each)

-- ## Events

event_line : (event : Event) → written_line (step.Note event) ≡ codes "event" ++ drop 3 (got_line event)
unfolding written_line
event_line event = refl

pub event_word : (event : Event) → written_line (step.Note event) ≡ codes "event" ++ drop 5 (written_line (step.Note event))
unfolding written_line
event_word event = refl

got_word : (event : Event) → take 3 (got_line event) ≡ codes "got"
got_word event = refl

got_places : (event : Event) → got_line event ≡ codes "got" ++ drop 5 (written_line (step.Note event))
unfolding written_line
got_places event = refl

none_by : {A : Type 0} (o : Option A) → ((a : A) → o ≡ Some a → ⊥) → None ≡ o
none_by None wrong = refl
none_by (Some a) wrong = absurd (wrong a refl)

passed_is : {A : Type 0} (t : Bool) (a b : A) → when t a ≡ Some b → (t ≡ true) × (a ≡ b)
passed_is true a b e = (refl, cc)
passed_is false a b e = absurd cc

event_by : (noted : Option Event) (line : List ℕ) (event : Event) → option_and_then (λ (event : Event). when (bytes_eq line (got_line event)) event) noted ≡ Some event → line ≡ got_line event
event_by None line event e = absurd cc
event_by (Some noted) line event e =
    let test = passed_is (bytes_eq line (got_line noted)) noted event e in
    same_text line (got_line noted) test.0 ∙ ap got_line test.1

-- a line with another first word
pub no_got : (line : List ℕ) → bytes_eq (take 3 line) (codes "got") ≡ false → None ≡ event_of line
no_got line other =
    none_by (event_of line) (λ event is.
    let line_is = event_by (noted_in (step_read (codes "event" ++ drop 3 line))) line event is in
    true≢false (sym ((bytes_eq-Decides (take 3 line) (codes "got")).1 (ap (take 3) line_is)) ∙ other))

abbrev noting : List ℕ → Option Step → Option Event
noting line read = option_and_then (λ (event : Event). when (bytes_eq line (got_line event)) event) (noted_in read)

-- The places behind `got` were put behind `event`, and that text was read.
pub record PlacesRead (line : List ℕ) (read : Result Step LineFault) : Type 0 where
  pub text : List ℕ
  pub places : List ℕ
  pub text_is : text ≡ codes "event" ++ places
  pub places_are : places ≡ drop 3 line
  pub reads : IsRead text read

places_found : (line : List ℕ) (read : Result Step LineFault) → PlacesRead line read → step_read (codes "event" ++ drop 3 line) ≡ result_ok read
places_found line read p = ap step_read (sym (p.text_is ∙ ap (λ places. codes "event" ++ places) p.places_are)) ∙ read_found p.text read p.reads

pub not_noted : (line : List ℕ) (read : Result Step LineFault) → PlacesRead line read → None ≡ noted_in (result_ok read) → None ≡ event_of line
not_noted line read p none =
    sym (ap (noting line) (places_found line read p) ∙ ap (option_and_then (λ (event : Event). when (bytes_eq line (got_line event)) event)) (sym none))

noted_ok : (read : Result Step LineFault) (event : Event) → Some event ≡ noted_in (result_ok read) → read ≡ Ok (step.Note event)
noted_ok (Ok (step.Note noted)) event e = let same : event ≡ noted = cc in ap (λ event. Ok (step.Note event)) (sym same)
noted_ok (Err f) event e = absurd cc
noted_ok (Ok _) event e = absurd cc

same_places : (line : List ℕ) (event : Event) → bytes_eq (take 3 line) (codes "got") ≡ true
    → bytes_eq line (got_line event) ≡ bytes_eq (drop 3 line) (drop 5 (written_line (step.Note event)))
same_places line event got =
    let front : line ≡ codes "got" ++ drop 3 line = sym (take-append-drop 3 line) ∙ ap (λ word. word ++ drop 3 line) (same_text (take 3 line) (codes "got") got) in
    ap (λ l. bytes_eq l (got_line event)) front ∙ ap (λ l. bytes_eq (codes "got" ++ drop 3 line) l) (got_places event)

pub event_found : (line : List ℕ) (read : Result Step LineFault) (event : Event) (right : Bool) → (p : PlacesRead line read) → Some event ≡ noted_in (result_ok read)
    → bytes_eq (take 3 line) (codes "got") ≡ true
    → right ≡ bytes_eq p.places (drop 5 (written_line (step.Note event))) → when right event ≡ event_of line
event_found line read event right p noted got is =
    ap (λ t. when t event) (is ∙ ap (λ places. bytes_eq places (drop 5 (written_line (step.Note event)))) p.places_are ∙ sym (same_places line event got))
    ∙ sym (ap (noting line) (places_found line read p) ∙ ap (option_and_then (λ (event : Event). when (bytes_eq line (got_line event)) event)) (sym noted))

pub event_flags : (line : List ℕ) (read : Result Step LineFault) (event : Event) → PlacesRead line read → Some event ≡ noted_in (result_ok read) → event.on.priority ≡ false
event_flags line read event p noted = (spelling_of p.text (step.Note event) (subst (IsRead p.text) (noted_ok read event noted) p.reads)).1

-- ## Counts of events

begins_given : (n : ℕ) → bytes_eq (take 6 (answer_line (answer.Given n))) (codes "given ") ≡ true
unfolding answer_line
begins_given n = refl

number_behind : (n : ℕ) → drop 6 (answer_line (answer.Given n)) ≡ decimal n
unfolding answer_line
number_behind n = refl

pub no_given : (line : List ℕ) → bytes_eq (take 6 line) (codes "given ") ≡ false → None ≡ given_in line
no_given line other = none_by (given_in line) (λ n is.
    true≢false (sym (begins_given n) ∙ ap (λ line. bytes_eq (take 6 line) (codes "given ")) (sym (is_given n line is).line_is) ∙ other))

-- the number of digits in their one spelling
abbrev pub FindsNumber : List ℕ → Option ℕ → Type 0
FindsNumber digits found = (n : ℕ) → n ≤ 1024 → digits ≡ decimal n → found ≡ Some n

finds : (line : List ℕ) (found : Option ℕ) (n : ℕ) → FindsNumber (drop 6 line) found → given_in line ≡ Some n → found ≡ Some n
finds line found n each is = let given = is_given n line is in each n given.few (ap (drop 6) given.line_is ∙ number_behind n)

pub no_number : (line : List ℕ) → FindsNumber (drop 6 line) None → None ≡ given_in line
no_number line each = none_by (given_in line) (λ n is. let wrong = finds line None n each is in cc wrong)

pub too_many : (line : List ℕ) (count : ℕ) → FindsNumber (drop 6 line) (Some count) → 1024 < count → None ≡ given_in line
too_many line count each more = none_by (given_in line) (λ n is.
    let same : count ≡ n = let found = finds line (Some count) n each is in cc in
    let few = (is_given n line is).few in omega arith)

pub count_right : (line : List ℕ) (count : ℕ) → count ≤ 1024 → true ≡ bytes_eq line (answer_line (answer.Given count)) → Some count ≡ given_in line
count_right line count few is =
    sym (ap given_in (same_text line (answer_line (answer.Given count)) (sym is)) ∙ given_back count few)

pub count_wrong : (line : List ℕ) (count : ℕ) → FindsNumber (drop 6 line) (Some count) → false ≡ bytes_eq line (answer_line (answer.Given count)) → None ≡ given_in line
count_wrong line count each is = none_by (given_in line) (λ n given.
    let same : count ≡ n = let found = finds line (Some count) n each given in cc in
    let line_is = (is_given n line given).line_is ∙ ap (λ n. answer_line (answer.Given n)) (sym same) in
    true≢false (sym ((bytes_eq-Decides line (answer_line (answer.Given count))).1 line_is) ∙ sym is))
