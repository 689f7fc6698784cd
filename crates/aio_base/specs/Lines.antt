-- The language of a line, in words: which step a line reads as, in any of its spellings; the one spelling in which a step is written; and one
-- table of what may follow the words of a line, of which its step and its fault come.
use Rattle.std.specs.Prelude.{◌≡◌, ℕ, ◌^◌, ◌≤◌, Bool, true, false, ◌&&◌, ◌||◌, ◌==◌, nat_le, nat_lt, if◌then◌else◌, List, [], ◌∷◌, length, filter, find, Option, None, Some, Result, Ok, Err, codes, decimal, bytes_eq}
use Rattle.std.specs.List.{list_all, list_any, slice_split, join_with_byte}
use Rattle.std.specs.Option.{ok_or, option_map}
use Rattle.std.specs.Result.{result_ok, result_err}
use Rattle.std.specs.Str.{all_ascii_digits}
use Rattle.std.specs.Str.Parse.{digits_value}
use Rattle.aio_base.specs.declared.names.Dir.{Dir}
use Rattle.aio_base.specs.declared.names.Dir.TheVariants.{Read, Write}
use Rattle.aio_base.specs.declared.names.Interest.{Interest}
use Rattle.aio_base.specs.declared.names.TheConstants.Interest.{NONE, READ, WRITE, READ_WRITE}
use Rattle.aio_base.specs.declared.names.Waker.{Waker}
use Rattle.aio_base.specs.declared.outcomes.Which.TheVariants as which
use Rattle.aio_base.specs.declared.steps.LineFault.{LineFault}
use Rattle.aio_base.specs.declared.steps.LineFault.TheVariants as fault
use Rattle.aio_base.specs.declared.steps.Step.{Step}
use Rattle.aio_base.specs.declared.steps.Step.TheVariants as step
use Rattle.aio_base.specs.World.{last_moment, same_dir}
use Rattle.aio_base.specs.Text.{dir_text, flags_text, which_text}

-- ## The words of a line

-- words are parted by spaces and tabs
abbrev pub is_blank : ℕ → Bool
is_blank b = (b == 32) || (b == 9)

-- the bytes that a line may hold: those that are printed and no space, and blanks
abbrev pub is_allowed : ℕ → Bool
is_allowed b = is_blank b || (nat_le 33 b && nat_le b 126)

-- a line without the one carriage return that may stand at its end, and counts as a space there
abbrev pub body_of : List ℕ → List ℕ
body_of [] = []
body_of (b ∷ []) = if b == 13 then [] else b ∷ []
body_of (b ∷ c ∷ bytes) = b ∷ body_of (c ∷ bytes)

-- a word has a byte
abbrev pub is_word : List ℕ → Bool
is_word [] = false
is_word (b ∷ bytes) = true

-- the words of a text: what stands between its blanks, before the first and behind the last
abbrev pub words_in : List ℕ → List (List ℕ)
words_in text = filter is_word (slice_split is_blank text)

-- the most bytes of a line, its carriage return counted
abbrev pub line_bytes : ℕ
line_bytes = 256

-- ## Numbers

-- the number that a word of one decimal digit or more stands for, with leading zeros or without; another word stands for none
abbrev pub numeral : List ℕ → Option ℕ
numeral word = if is_word word && all_ascii_digits word then Some (digits_value 10 word) else None

-- the greatest key, waker, and number of a listener or a timer
abbrev pub last_number : ℕ
last_number = 4294967295

-- a number in a range, its ends among it
abbrev pub is_from_to : ℕ → ℕ → ℕ → Bool
is_from_to low high n = nat_le low n && nat_le n high

-- ## Steps with a spelling

-- a moment is at most 10^18 nanoseconds
abbrev pub IsMoment : ℕ → Type 0
IsMoment moment = moment ≤ 10 ^ 18

-- a period is 1 to 10^18 nanoseconds
abbrev pub IsPeriod : ℕ → Type 0
IsPeriod period = (1 ≤ period) × (period ≤ 10 ^ 18)

-- a step in range: its period, if it has one, is a period, and its limit, if it has one, at most 10^18 nanoseconds
abbrev pub IsInRange : Step → Type 0
IsInRange (step.TimerEvery deadline period) = IsPeriod period
IsInRange (step.SetEvery number deadline period) = IsPeriod period
IsInRange (step.Begin (Some limit)) = limit ≤ 10 ^ 18
IsInRange _ = Unit {0}

-- the directions that a line may name: Priority is none of them
abbrev pub written_directions : List Dir
written_directions = Read ∷ Write ∷ []

abbrev pub HasWord : Dir → Type 0
HasWord dir = list_any (same_dir dir) written_directions ≡ true

-- flags that a line may name: those without Priority
abbrev pub FlagsHaveWord : Interest → Type 0
FlagsHaveWord on = on.priority ≡ false

-- a step that names no Priority: it polls no such direction, makes no listener of it, and notes no event of it
abbrev pub NamesNoPriority : Step → Type 0
NamesNoPriority (step.Poll key dir waker) = HasWord dir
NamesNoPriority (step.New key dir) = HasWord dir
NamesNoPriority (step.Note event) = FlagsHaveWord event.on
NamesNoPriority _ = Unit {0}

-- A step that a line can spell: each number is in the range of its place, and no direction is Priority. What this asks beside `IsInRange` and
-- `NamesNoPriority` each value of the type `Step` meets.
abbrev pub HasSpelling : Step → Type 0
HasSpelling (step.Del key) = key.0 ≤ last_number
HasSpelling (step.Poll key dir waker) = (key.0 ≤ last_number) × HasWord dir × (waker.0 ≤ last_number)
HasSpelling (step.New key dir) = (key.0 ≤ last_number) × HasWord dir
HasSpelling (step.StepEar number waker) = (number ≤ last_number) × (waker.0 ≤ last_number)
HasSpelling (step.DropEar number) = number ≤ last_number
HasSpelling (step.TimerAt deadline) = IsMoment deadline
HasSpelling (step.TimerEvery deadline period) = IsMoment deadline × IsPeriod period
HasSpelling (step.Tick number waker) = (number ≤ last_number) × (waker.0 ≤ last_number)
HasSpelling (step.SetAt number deadline) = (number ≤ last_number) × IsMoment deadline
HasSpelling (step.SetEvery number deadline period) = (number ≤ last_number) × IsMoment deadline × IsPeriod period
HasSpelling (step.End number) = number ≤ last_number
HasSpelling (step.Now moment) = IsMoment moment
HasSpelling (step.Note event) = (event.key.0 ≤ last_number) × FlagsHaveWord event.on
HasSpelling (step.Begin (Some limit)) = limit ≤ 10 ^ 18
HasSpelling _ = Unit {0}

-- ## The words of a step

-- a word of a step: these bytes, or any spelling of this number
pub data StepWord : Type 0 where
  Text : List ℕ → StepWord
  Number : ℕ → StepWord

abbrev pub limit_word : Option ℕ → StepWord
limit_word None = Text (codes "none")
limit_word (Some limit) = Number limit

-- the words of a step, with what is written for its waker
abbrev pub step_words_for : (ℕ → StepWord) → Step → List StepWord
step_words_for who step.Add = Text (codes "add") ∷ []
step_words_for who (step.Del key) = Text (codes "del") ∷ Number key.0 ∷ []
step_words_for who (step.Poll key dir waker) = Text (codes "poll") ∷ Number key.0 ∷ Text (dir_text dir) ∷ who waker.0 ∷ []
step_words_for who (step.New key dir) = Text (codes "new") ∷ Number key.0 ∷ Text (dir_text dir) ∷ []
step_words_for who (step.StepEar number waker) = Text (codes "step") ∷ Number number ∷ who waker.0 ∷ []
step_words_for who (step.DropEar number) = Text (codes "drop") ∷ Number number ∷ []
step_words_for who (step.TimerAt deadline) = Text (codes "timer") ∷ Text (codes "at") ∷ Number deadline ∷ []
step_words_for who (step.TimerEvery deadline period) = Text (codes "timer") ∷ Text (codes "every") ∷ Number deadline ∷ Number period ∷ []
step_words_for who step.TimerNever = Text (codes "timer") ∷ Text (codes "never") ∷ []
step_words_for who (step.Tick number waker) = Text (codes "tick") ∷ Number number ∷ who waker.0 ∷ []
step_words_for who (step.SetAt number deadline) = Text (codes "set") ∷ Number number ∷ Text (codes "at") ∷ Number deadline ∷ []
step_words_for who (step.SetEvery number deadline period) = Text (codes "set") ∷ Number number ∷ Text (codes "every") ∷ Number deadline ∷ Number period ∷ []
step_words_for who (step.End number) = Text (codes "end") ∷ Number number ∷ []
step_words_for who (step.Now moment) = Text (codes "now") ∷ Number moment ∷ []
step_words_for who (step.Note event) = Text (codes "event") ∷ Number event.key.0 ∷ Text (flags_text event.on) ∷ []
step_words_for who (step.Fault kind) = Text (codes "fault") ∷ Text (which_text kind) ∷ []
step_words_for who step.Interrupt = Text (codes "interrupt") ∷ []
step_words_for who (step.Begin limit) = Text (codes "begin") ∷ limit_word limit ∷ []
step_words_for who step.Wait = Text (codes "wait") ∷ []
step_words_for who step.Handle = Text (codes "handle") ∷ []
step_words_for who step.Finish = Text (codes "finish") ∷ []
step_words_for who step.React = Text (codes "react") ∷ []

-- the words of a step, whose waker is written as a number
abbrev pub step_words : Step → List StepWord
step_words s = step_words_for Number s

-- ## Reading and writing

-- whether a word of a line is this word of a step
abbrev pub Spells : List ℕ → StepWord → Type 0
Spells word (Text text) = word ≡ text
Spells word (Number n) = numeral word ≡ Some n

-- the words of a line are these words of a step, one by one
abbrev pub SpellAll : List (List ℕ) → List StepWord → Type 0
SpellAll [] [] = Unit {0}
SpellAll (word ∷ words) (w ∷ ws) = Spells word w × SpellAll words ws
SpellAll _ _ = ⊥

-- A line, without its line feed, reads as a step: it is not too long and holds allowed bytes, and its words are those of the step, each number
-- in any of its spellings and in the range of its place.
pub record Reads (s : Step) (line : List ℕ) : Type 0 where
  pub in_range : HasSpelling s
  pub short : length line ≤ line_bytes
  pub allowed : list_all is_allowed (body_of line) ≡ true
  pub spelled : SpellAll (words_in (body_of line)) (step_words s)

-- a word as it is written: a number without leading zeros
abbrev pub written_word : StepWord → List ℕ
written_word (Text text) = text
written_word (Number n) = decimal n

abbrev pub written_words : List StepWord → List (List ℕ)
written_words [] = []
written_words (w ∷ ws) = written_word w ∷ written_words ws

-- the one written spelling of a step, without its line feed: its words with one space between them
unfoldable pub written_line : Step → List ℕ
written_line s = join_with_byte 32 (written_words (step_words s))

-- the line, without its line feed, is the written spelling of the step
abbrev pub Written : Step → List ℕ → Type 0
Written s line = HasSpelling s × (line ≡ written_line s)

-- ## Places

-- what a place of a line asks of its word
pub data Asked : Type 0 where
  ANumber : Asked
  AWaker : Asked
  AMoment : Asked
  APeriod : Asked
  ALimit : Asked
  ADirection : Asked
  SomeFlags : Asked

-- what a word stands for in a place; `W` is what it stands for in a waker's
abbrev pub Value : Type 0 → Asked → Type 0
Value W ANumber = ℕ
Value W AWaker = W
Value W AMoment = ℕ
Value W APeriod = ℕ
Value W ALimit = Option ℕ
Value W ADirection = Dir
Value W SomeFlags = Interest

-- a number, where it is in this range
abbrev pub within : ℕ → ℕ → Option ℕ → Option ℕ
within low high None = None
within low high (Some n) = if is_from_to low high n then Some n else None

-- the limit that a word names: none, or a number of nanoseconds
abbrev pub limit_named : List ℕ → Option (Option ℕ)
limit_named word = if bytes_eq word (codes "none") then Some None else option_map (λ n. Some n) (within 0 last_moment (numeral word))

-- ## What may follow

-- How a line may go on: with no further word, and then it is this line; with a word in a place, and then as its value says; with this word, or else
-- as another way has it; or with no word at all, and then each word is this fault.
pub data Rest (L F W : Type 0) : Type 0 where
  Done : L → Rest L F W
  Place : (place : Asked) → (Value W place → Rest L F W) → Rest L F W
  Word : List ℕ → Rest L F W → Rest L F W → Rest L F W
  Wrong : F → Rest L F W

-- What versions of the language differ in: the directions, and the directions of an event, that have a word; what a word in a waker's place stands
-- for, or its fault; the line of a step, and of one with such a waker in place of its own; how a fault is told; and the lines that a version alone has.
pub record Version (L F W : Type 0) : Type 0 where
  pub directions : List Dir
  pub flags : List Interest
  pub waker : List ℕ → Result W F
  pub line : Step → L
  pub waking : W → Step → L
  pub fault : LineFault → F
  pub own : Rest L F W

-- what a word stands for in a place, or its fault
abbrev pub value_of : {L F W : Type 0} → Version L F W → (place : Asked) → List ℕ → Result (Value W place) F
value_of v ANumber word = ok_or (within 0 last_number (numeral word)) (v.fault fault.Number)
value_of v AWaker word = v.waker word
value_of v AMoment word = ok_or (within 0 last_moment (numeral word)) (v.fault fault.Number)
value_of v APeriod word = ok_or (within 1 last_moment (numeral word)) (v.fault fault.Number)
value_of v ALimit word = ok_or (limit_named word) (v.fault fault.Number)
value_of v ADirection word = ok_or (find (λ (dir : Dir). bytes_eq word (dir_text dir)) v.directions) (v.fault fault.Direction)
value_of v SomeFlags word = ok_or (find (λ (on : Interest). bytes_eq word (flags_text on)) v.flags) (v.fault fault.Flags)

abbrev pub and_then : {A B F : Type 0} → Result A F → (A → Result B F) → Result B F
and_then (Ok x) next = next x
and_then (Err f) next = Err f

-- what was read of a first word, with the words behind it
abbrev pub with_rest : {A F : Type 0} → List (List ℕ) → Result A F → Result (A × List (List ℕ)) F
with_rest words (Ok x) = Ok (x, words)
with_rest words (Err f) = Err f

-- the value of a first word in a place, with the words behind it
abbrev pub take_value : {L F W : Type 0} → Version L F W → (place : Asked) → List (List ℕ) → Result (Value W place × List (List ℕ)) F
take_value v place [] = Err (v.fault fault.Count)
take_value v place (word ∷ words) = with_rest words (value_of v place word)

-- a line behind which no word may follow
abbrev pub ended : {L F W : Type 0} → Version L F W → L → List (List ℕ) → Result L F
ended v l [] = Ok l
ended v l (word ∷ words) = Err (v.fault fault.Count)

-- what words read as that begin with this word, or else with another
abbrev pub chosen : {L F W : Type 0} → Version L F W → List ℕ → (first others : List (List ℕ) → Result L F) → List (List ℕ) → Result L F
chosen v text first others [] = Err (v.fault fault.Count)
chosen v text first others (word ∷ words) = if bytes_eq word text then first words else others (word ∷ words)

-- words of which none may stand there
abbrev pub wrong : {L F W : Type 0} → Version L F W → F → List (List ℕ) → Result L F
wrong v f [] = Err (v.fault fault.Count)
wrong v f (word ∷ words) = Err f

-- what words read as with which a line goes on so: a line, or the first of their faults, from left to right
abbrev pub read : {L F W : Type 0} → Version L F W → Rest L F W → List (List ℕ) → Result L F
read v (Done l) words = ended v l words
read v (Place place behind) words = and_then (take_value v place words) (λ x. read v (behind x.0) x.1)
read v (Word text first others) words = chosen v text (λ words. read v first words) (λ words. read v others words) words
read v (Wrong f) words = wrong v f words

-- ## The lines

-- the line of a step that has no further place
abbrev pub at_end : {L F W : Type 0} → Version L F W → Step → Rest L F W
at_end v s = Done (v.line s)

-- of the steps with a waker: it stands last, and comes in place of waker 0
abbrev pub waker_rest : {L F W : Type 0} → Version L F W → Step → Rest L F W
waker_rest v s = Place AWaker (λ w. Done (v.waking w s))

abbrev pub del_rest : {L F W : Type 0} → Version L F W → Rest L F W
del_rest v = Place ANumber (λ k. at_end v (step.Del (record { 0 = k })))

abbrev pub poll_rest : {L F W : Type 0} → Version L F W → Rest L F W
poll_rest v = Place ANumber (λ k. Place ADirection (λ d. waker_rest v (step.Poll (record { 0 = k }) d (record { 0 = 0 }))))

abbrev pub new_rest : {L F W : Type 0} → Version L F W → Rest L F W
new_rest v = Place ANumber (λ k. Place ADirection (λ d. at_end v (step.New (record { 0 = k }) d)))

abbrev pub listener_poll_rest : {L F W : Type 0} → Version L F W → Rest L F W
listener_poll_rest v = Place ANumber (λ n. waker_rest v (step.StepEar n (record { 0 = 0 })))

abbrev pub drop_rest : {L F W : Type 0} → Version L F W → Rest L F W
drop_rest v = Place ANumber (λ n. at_end v (step.DropEar n))

abbrev pub timer_at_rest : {L F W : Type 0} → Version L F W → Rest L F W
timer_at_rest v = Place AMoment (λ t. at_end v (step.TimerAt t))

abbrev pub timer_every_rest : {L F W : Type 0} → Version L F W → Rest L F W
timer_every_rest v = Place AMoment (λ t. Place APeriod (λ p. at_end v (step.TimerEvery t p)))

abbrev pub timer_rest : {L F W : Type 0} → Version L F W → Rest L F W
timer_rest v =
    Word (codes "at") (timer_at_rest v)
    (Word (codes "every") (timer_every_rest v)
    (Word (codes "never") (at_end v step.TimerNever) (Wrong (v.fault fault.Choice))))

abbrev pub tick_rest : {L F W : Type 0} → Version L F W → Rest L F W
tick_rest v = Place ANumber (λ n. waker_rest v (step.Tick n (record { 0 = 0 })))

abbrev pub set_at_rest : {L F W : Type 0} → Version L F W → ℕ → Rest L F W
set_at_rest v n = Place AMoment (λ t. at_end v (step.SetAt n t))

abbrev pub set_every_rest : {L F W : Type 0} → Version L F W → ℕ → Rest L F W
set_every_rest v n = Place AMoment (λ t. Place APeriod (λ p. at_end v (step.SetEvery n t p)))

abbrev pub set_rest : {L F W : Type 0} → Version L F W → Rest L F W
set_rest v = Place ANumber (λ n.
    Word (codes "at") (set_at_rest v n)
    (Word (codes "every") (set_every_rest v n) (Wrong (v.fault fault.Choice))))

abbrev pub end_rest : {L F W : Type 0} → Version L F W → Rest L F W
end_rest v = Place ANumber (λ n. at_end v (step.End n))

abbrev pub now_rest : {L F W : Type 0} → Version L F W → Rest L F W
now_rest v = Place AMoment (λ t. at_end v (step.Now t))

abbrev pub event_rest : {L F W : Type 0} → Version L F W → Rest L F W
event_rest v = Place ANumber (λ k. Place SomeFlags (λ on. at_end v (step.Note (record { key = record { 0 = k }; on = on }))))

abbrev pub fault_rest : {L F W : Type 0} → Version L F W → Rest L F W
fault_rest v =
    Word (codes "add") (at_end v (step.Fault which.Add))
    (Word (codes "arm") (at_end v (step.Fault which.Arm))
    (Word (codes "remove") (at_end v (step.Fault which.Remove))
    (Word (codes "wait") (at_end v (step.Fault which.Wait)) (Wrong (v.fault fault.Choice)))))

abbrev pub begin_rest : {L F W : Type 0} → Version L F W → Rest L F W
begin_rest v = Place ALimit (λ l. at_end v (step.Begin l))

-- the lines of faults and rounds, and those that the version alone has
abbrev pub round_lines : {L F W : Type 0} → Version L F W → Rest L F W
round_lines v =
    Word (codes "fault") (fault_rest v)
    (Word (codes "interrupt") (at_end v step.Interrupt)
    (Word (codes "begin") (begin_rest v)
    (Word (codes "wait") (at_end v step.Wait)
    (Word (codes "handle") (at_end v step.Handle)
    (Word (codes "finish") (at_end v step.Finish)
    (Word (codes "react") (at_end v step.React) v.own))))))

-- these, and those of timers, of the clock and of events
abbrev pub clock_lines : {L F W : Type 0} → Version L F W → Rest L F W
clock_lines v =
    Word (codes "timer") (timer_rest v)
    (Word (codes "tick") (tick_rest v)
    (Word (codes "set") (set_rest v)
    (Word (codes "end") (end_rest v)
    (Word (codes "now") (now_rest v)
    (Word (codes "event") (event_rest v) (round_lines v))))))

-- the lines of the language
abbrev pub lines : {L F W : Type 0} → Version L F W → Rest L F W
lines v =
    Word (codes "add") (at_end v step.Add)
    (Word (codes "del") (del_rest v)
    (Word (codes "poll") (poll_rest v)
    (Word (codes "new") (new_rest v)
    (Word (codes "step") (listener_poll_rest v)
    (Word (codes "drop") (drop_rest v) (clock_lines v))))))

-- what the words of a line read as; a line without a word is empty
abbrev pub words_read : {L F W : Type 0} → Version L F W → List (List ℕ) → Result L F
words_read v [] = Err (v.fault fault.Empty)
words_read v (word ∷ words) = read v (lines v) (word ∷ words)

-- What a line without its line feed reads as, or its fault: that it is too long, then a byte that is not allowed, wherever it stands, then the first
-- fault of its words.
abbrev pub line_read : {L F W : Type 0} → Version L F W → List ℕ → Result L F
line_read v line =
    if nat_lt line_bytes (length line) then Err (v.fault fault.Long)
    else (if list_all is_allowed (body_of line) then words_read v (words_in (body_of line)) else Err (v.fault fault.Byte))

-- ## The first version

-- a step with this waker in place of its own, where it has one
abbrev pub with_waker : Step → Waker → Step
with_waker (step.Poll key dir other) waker = step.Poll key dir waker
with_waker (step.StepEar number other) waker = step.StepEar number waker
with_waker (step.Tick number other) waker = step.Tick number waker
with_waker s waker = s

abbrev pub written_flags : List Interest
written_flags = NONE ∷ READ ∷ WRITE ∷ READ_WRITE ∷ []

-- each line is a step, each waker a number, and no line is its own
abbrev pub first : Version Step LineFault ℕ
first = record {
  directions = written_directions;
  flags = written_flags;
  waker = λ word. ok_or (within 0 last_number (numeral word)) fault.Number;
  line = λ s. s;
  waking = λ w s. with_waker s (record { 0 = w });
  fault = λ f. f;
  own = Wrong fault.Command;
}

-- the step that a line without its line feed reads as, where there is one
unfoldable pub step_read : List ℕ → Option Step
step_read line = result_ok (line_read first line)

-- the fault of a line without its line feed, where it reads as no step
unfoldable pub fault_of : List ℕ → Option LineFault
fault_of line = result_err (line_read first line)
