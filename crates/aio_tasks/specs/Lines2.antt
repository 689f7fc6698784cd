-- The language of a line in the second version, in words: what a line reads as, in any of its spellings, and the one spelling in which it is
-- written. What both versions have comes of the one table of lines; three lines are its own.
use Rattle.std.specs.Prelude.{◌≡◌, ℕ, ◌≤◌, Bool, true, false, nat_lt, if◌then◌else◌, List, [], ◌∷◌, length, find, Option, None, Some, Result, Err, codes, bytes_eq}
use Rattle.std.specs.List.{list_all, join_with_byte}
use Rattle.std.specs.Option.{ok_or, option_map}
use Rattle.std.specs.Result.{result_err}
use Rattle.aio_base.specs.declared.names.Dir.TheVariants.{Read, Write, Priority}
use Rattle.aio_base.specs.declared.names.Interest.{Interest}
use Rattle.aio_base.specs.declared.steps.LineFault.{LineFault}
use Rattle.aio_base.specs.declared.steps.LineFault.TheVariants as fault
use Rattle.aio_base.specs.declared.steps.Step.{Step}
use Rattle.aio_base.specs.declared.steps.Step.TheVariants as step
use Rattle.aio_base.specs.Lines.{Number, SpellAll, StepWord, Text, Version, Wrong, and_then, body_of, ended, is_allowed, last_number, line_bytes, lines, numeral, read, step_words_for, with_rest, with_waker, within, words_in, written_words, HasSpelling, IsInRange}
use Rattle.aio_tasks.specs.declared.steps.Line2.{Line2}
use Rattle.aio_tasks.specs.declared.steps.Line2.TheVariants as line
use Rattle.aio_tasks.specs.declared.steps.LineFault2.{LineFault2}
use Rattle.aio_tasks.specs.declared.steps.LineFault2.TheVariants as second
use Rattle.aio_tasks.specs.declared.steps.Step2.TheVariants as step2
use Rattle.aio_tasks.specs.declared.steps.Who.{Who}
use Rattle.aio_tasks.specs.declared.steps.Who.TheVariants.{Numbered, Called}
use Rattle.aio_tasks.specs.Names.{IsName, is_letter, is_name}

-- ## Faults

-- a fault of a line of the first version, of one of the second
abbrev pub wide : LineFault → LineFault2
wide fault.Long = second.Long
wide fault.Byte = second.Byte
wide fault.Empty = second.Empty
wide fault.Command = second.Command
wide fault.Count = second.Count
wide fault.Number = second.Number
wide fault.Direction = second.Direction
wide fault.Flags = second.Flags
wide fault.Choice = second.Choice

-- ## What words stand for

abbrev pub named : List ℕ → Option (List ℕ)
named word = if is_name word then Some word else None

-- a word in a waker's place: one that begins with a letter has to be a name, another a number
abbrev pub who_named : List ℕ → Result Who LineFault2
who_named [] = Err second.Number
who_named (b ∷ bytes) =
    if is_letter b then ok_or (option_map Called (named (b ∷ bytes))) second.Name
    else ok_or (option_map Numbered (within 0 last_number (numeral (b ∷ bytes)))) second.Number

abbrev pub name_value : List ℕ → Result (List ℕ) LineFault2
name_value word = ok_or (named word) second.Name

abbrev pub number_value : List ℕ → Result ℕ LineFault2
number_value word = ok_or (within 0 last_number (numeral word)) second.Number

-- the most times that one line may repeat a step
abbrev pub repeat_limit : ℕ
repeat_limit = 100000

abbrev pub times_value : List ℕ → Result ℕ LineFault2
times_value word = ok_or (within 1 repeat_limit (numeral word)) second.Number

-- the directions of an event, in the order in which they are written: none of them is `-`
abbrev pub some_flags : Bool → Bool → Bool → List ℕ
some_flags false false false = codes "-"
some_flags true false false = codes "r"
some_flags false true false = codes "w"
some_flags false false true = codes "p"
some_flags true true false = codes "rw"
some_flags true false true = codes "rp"
some_flags false true true = codes "wp"
some_flags true true true = codes "rwp"

abbrev pub all_flags_text : Interest → List ℕ
all_flags_text on = some_flags on.read on.write on.priority

abbrev pub flags : Bool → Bool → Bool → Interest
flags read write priority = record { read = read; write = write; priority = priority }

-- the directions of an event that have a word of two letters or three, and all that have a word
abbrev pub many_flags : List Interest
many_flags = flags true true false ∷ flags true false true ∷ flags false true true ∷ flags true true true ∷ []

abbrev pub all_flags : List Interest
all_flags = flags false false false ∷ flags true false false ∷ flags false true false ∷ flags false false true ∷ many_flags

-- which of these a word names
abbrev pub named_of : List Interest → List ℕ → Option Interest
named_of found word = find (λ (on : Interest). bytes_eq word (all_flags_text on)) found

abbrev pub flags_named : List ℕ → Option Interest
flags_named word = named_of all_flags word

abbrev pub flags_value : List ℕ → Result Interest LineFault2
flags_value word = ok_or (flags_named word) second.Flags

-- ## The version

-- the line of a step for a waker, by its number or by its name
abbrev pub line_for : Who → Step → Line2
line_for (Numbered w) s = line.Step (step2.Plain (with_waker s (record { 0 = w })))
line_for (Called name) s = line.Step (step2.Named s name)

-- Each of the three directions has a word, and a waker a number or a name. Events of the table are not read: this version's own line of an event comes
-- before them.
abbrev pub two : Version Line2 LineFault2 Who
two = record {
  directions = Read ∷ Write ∷ Priority ∷ [];
  flags = [];
  waker = who_named;
  line = λ s. line.Step (step2.Plain s);
  waking = line_for;
  fault = wide;
  own = Wrong second.Command;
}

-- what a first word stands for, with the words behind it
abbrev pub taken : {A : Type 0} → (List ℕ → Result A LineFault2) → List (List ℕ) → Result (A × List (List ℕ)) LineFault2
taken value [] = Err second.Count
taken value (word ∷ words) = with_rest words (value word)

abbrev pub event_line : ℕ → Interest → Line2
event_line k on = line.Step (step2.Plain (step.Note (record { key = record { 0 = k }; on = on })))

-- `event K F`, behind its command
abbrev pub event_read : List (List ℕ) → Result Line2 LineFault2
event_read words = and_then (taken number_value words) (λ k. and_then (taken flags_value k.1) (λ on. ended two (event_line k.0 on.0) on.1))

abbrev pub task_line : List ℕ → ℕ → Line2
task_line name w = line.Step (step2.Task name (record { 0 = w }))

-- `task NAME W`, behind its command: this waker is a number
abbrev pub task_read : List (List ℕ) → Result Line2 LineFault2
task_read words = and_then (taken name_value words) (λ name. and_then (taken number_value name.1) (λ w. ended two (task_line name.0 w.0) w.1))

-- `repeat N`, behind its command
abbrev pub repeat_read : List (List ℕ) → Result Line2 LineFault2
repeat_read words = and_then (taken times_value words) (λ n. ended two (line.Repeat n.0) n.1)

-- what the words of a line read as: the three own lines, and those of the table
abbrev pub words_read2 : List (List ℕ) → Result Line2 LineFault2
words_read2 [] = Err second.Empty
words_read2 (word ∷ words) =
    if bytes_eq word (codes "event") then event_read words
    else (if bytes_eq word (codes "task") then task_read words
    else (if bytes_eq word (codes "repeat") then repeat_read words
    else read two (lines two) (word ∷ words)))

-- what a line without its line feed reads as, or its fault, in the order of the first version
unfoldable pub second_read : List ℕ → Result Line2 LineFault2
second_read bytes =
    if nat_lt line_bytes (length bytes) then Err second.Long
    else (if list_all is_allowed (body_of bytes) then words_read2 (words_in (body_of bytes)) else Err second.Byte)

-- the fault of a line without its line feed, where it reads as none
abbrev pub fault_of2 : List ℕ → Option LineFault2
fault_of2 bytes = result_err (second_read bytes)

-- ## In words

-- a step each number of which is in the range of its place, whatever directions it names
abbrev pub HasNumbers : Step → Type 0
HasNumbers (step.Poll key dir waker) = (key.0 ≤ last_number) × (waker.0 ≤ last_number)
HasNumbers (step.New key dir) = key.0 ≤ last_number
HasNumbers (step.Note event) = event.key.0 ≤ last_number
HasNumbers s = HasSpelling s

-- a poll of a source, of a listener or of a timer, with waker 0 in place of that of its task
abbrev pub IsWaking : Step → Type 0
IsWaking (step.Poll key dir waker) = waker.0 ≡ 0
IsWaking (step.StepEar number waker) = waker.0 ≡ 0
IsWaking (step.Tick number waker) = waker.0 ≡ 0
IsWaking _ = ⊥

-- a line that has a spelling: a step with a name is a poll, and each number is in the range of its place
abbrev pub HasSpelling2 : Line2 → Type 0
HasSpelling2 (line.Step (step2.Plain s)) = HasNumbers s
HasSpelling2 (line.Step (step2.Named s name)) = HasNumbers s × IsWaking s × IsName name
HasSpelling2 (line.Step (step2.Task name waker)) = IsName name × (waker.0 ≤ last_number)
HasSpelling2 (line.Repeat times) = (1 ≤ times) × (times ≤ repeat_limit)

-- A line in range: its step is, and is a poll where it has a name; a repeat is not of too many, or of none. What a spelling asks beside this each value
-- of the type `Line2` meets.
abbrev pub IsInRange2 : Line2 → Type 0
IsInRange2 (line.Step (step2.Plain s)) = IsInRange s
IsInRange2 (line.Step (step2.Named s name)) = IsWaking s
IsInRange2 (line.Step (step2.Task name waker)) = Unit {0}
IsInRange2 (line.Repeat times) = (1 ≤ times) × (times ≤ repeat_limit)

-- the words of a step; only those of an event differ from the first version, in its directions
abbrev pub plain_words : Step → List StepWord
plain_words (step.Note event) = Text (codes "event") ∷ Number event.key.0 ∷ Text (all_flags_text event.on) ∷ []
plain_words s = step_words_for Number s

-- the words of a line; a name stands in the place of the waker
abbrev pub line_words : Line2 → List StepWord
line_words (line.Step (step2.Plain s)) = plain_words s
line_words (line.Step (step2.Named s name)) = step_words_for (λ w. Text name) s
line_words (line.Step (step2.Task name waker)) = Text (codes "task") ∷ Text name ∷ Number waker.0 ∷ []
line_words (line.Repeat times) = Text (codes "repeat") ∷ Number times ∷ []

-- Bytes, without their line feed, read as a line of the second version: they are not too many and allowed, and their words are those of the line, each
-- number in any of its spellings and in the range of its place.
pub record Reads2 (m : Line2) (bytes : List ℕ) : Type 0 where
  pub in_range : HasSpelling2 m
  pub short : length bytes ≤ line_bytes
  pub allowed : list_all is_allowed (body_of bytes) ≡ true
  pub spelled : SpellAll (words_in (body_of bytes)) (line_words m)

-- how a line is written, without its line feed: its words with one space between them
unfoldable pub written_line2 : Line2 → List ℕ
written_line2 m = join_with_byte 32 (written_words (line_words m))

abbrev pub Written2 : Line2 → List ℕ → Type 0
Written2 m bytes = HasSpelling2 m × (bytes ≡ written_line2 m)
