-- What is unread of a source, with the bytes that lie ahead of it, and what is found next of that.
use Rattle.std.specs.Prelude.{◌≡◌, ℕ, ◌+◌, ◌-◌, ◌≤◌, List, [], ◌∷◌, ◌++◌, length, take, Option, Some, Result, Ok, Err}
use Rattle.std.specs.Io.KnownBytes.{IsAtEnd}
use Rattle.aio_base.specs.Trace.{lines_of}
use Rattle.aio_bytes.specs.Held.{HasNoLineFeed}
use Rattle.aio_bytes.specs.declared.lines.Next.{Next}
use Rattle.aio_bytes.specs.declared.lines.Next.TheVariants as next

-- what a source has left, with the bytes that were read ahead of it
pub record Unread (told : Option (List ℕ)) (ahead unread : List ℕ) : Type 0 where
  pub left : List ℕ
  pub is_left : told ≡ Some left
  pub whole : unread ≡ ahead ++ left

-- a source has the end of these bytes left, and gave at most so many
pub record LeavesAllBut (count : ℕ) (told : Option (List ℕ)) (unread : List ℕ) : Type 0 where
  pub taken : List ℕ
  pub left : List ℕ
  pub is_left : told ≡ Some left
  pub whole : unread ≡ taken ++ left
  pub most : length taken ≤ count

-- these bytes begin with a line that is too long: 257 of them without a line feed
pub record BeginsLong (unread : List ℕ) : Type 0 where
  pub front : List ℕ
  pub more : List ℕ
  pub whole : unread ≡ front ++ more
  pub long : length front ≡ 257
  pub no_line_feed : HasNoLineFeed front

-- a line was taken of the bytes that were unread, with its line feed where it has one
pub record TakesLine (told : Option (List ℕ)) (line ahead unread : List ℕ) : Type 0 where
  pub taken : List ℕ
  pub rest : List ℕ
  pub is_rest : Unread told ahead rest
  pub whole : unread ≡ taken ++ rest
  pub lines : lines_of unread ≡ line ∷ lines_of rest
  pub within : length taken ≤ length line + 1
  pub most : length taken ≤ 257
  pub held : LeavesAllBut 257 told unread

-- This is found next of the bytes that were unread: a line, the first bytes of a line that is too long, or nothing; in any case at most 257 bytes of
-- them are out of the source.
abbrev pub Finds : Next → Option (List ℕ) → List ℕ → List ℕ → List ℕ → Type 0
Finds next.Line told line ahead unread = TakesLine told line ahead unread
Finds next.Long told line ahead unread = BeginsLong unread × LeavesAllBut 257 told unread
Finds next.End told line ahead unread = (unread ≡ []) × (told ≡ Some [])

-- what a call found next of the bytes that were unread; where it failed, it took no more of them than that
abbrev pub FindsNext : {E : Type 0} → Result Next E → Option (List ℕ) → List ℕ → List ℕ → List ℕ → Type 0
FindsNext (Ok found) told line ahead unread = Finds found told line ahead unread
FindsNext (Err e) told line ahead unread = LeavesAllBut 257 told unread

-- what was unread still is: no byte of it is lost
abbrev pub KeepsUnread : (told_old told_new : Option (List ℕ)) → (ahead_old ahead_new : List ℕ) → Type 0
KeepsUnread told_old told_new ahead_old ahead_new = (unread : List ℕ) → Unread told_old ahead_old unread → Unread told_new ahead_new unread

-- what is found next, whatever a source has left behind these bytes that lay ahead
abbrev pub FindsAhead : Next → List ℕ → List ℕ → List ℕ → Type 0
FindsAhead found line ahead_new ahead_old =
    (told : Option (List ℕ)) (unread : List ℕ) → Unread told ahead_old unread → Finds found told line ahead_new unread

-- the same of a source that is at its end
abbrev pub FindsLast : Next → List ℕ → List ℕ → List ℕ → Type 0
FindsLast found line ahead_new ahead_old =
    (told : Option (List ℕ)) (unread : List ℕ) → Unread told ahead_old unread → IsAtEnd told → Finds found told line ahead_new unread

-- ## The bytes before a line

-- the bytes of some lines, each with its line feed
abbrev pub length_of_lines : List (List ℕ) → ℕ
length_of_lines [] = 0
length_of_lines (line ∷ lines) = length line + 1 + length_of_lines lines

-- the bytes of an input that stand before the line of this number, counted from 1
abbrev pub bytes_before : ℕ → List ℕ → ℕ
bytes_before line input = length_of_lines (take (line - 1) (lines_of input))
