-- What a reader of lines holds of a source, and what a read of it adds.
use Rattle.std.specs.Prelude.{◌≡◌, ℕ, ◌==◌, ◌≤◌, Bool, false, List, ◌++◌, length, take, min, Option, Result, Ok, Err, IfOk}
use Rattle.std.specs.List.{list_any}
use Rattle.std.specs.Io.KnownBytes.{Consumes, IsAtEnd}
use Rattle.aio_base.specs.declared.outcomes.Failed.{Failed}

-- the answer of a read with the bytes that it read, which stand at the front of these
abbrev pub with_bytes : Result ℕ Failed → List ℕ → Result (List ℕ) Failed
with_bytes (Ok count) bytes = Ok (take count bytes)
with_bytes (Err failed) bytes = Err failed

-- a read that has room for so many bytes, of a source with so many in hand: where it succeeds it gives those, as far as there is room
abbrev pub GivesInHand : ℕ → ℕ → Result ℕ Failed → Type 0
GivesInHand in_hand room answer = IfOk answer (λ n. min room in_hand ≤ n)

-- the line found last without its line feed, and the bytes read after it
pub record Held : Type 0 where
  pub line : List ℕ
  pub ahead : List ℕ

abbrev pub is_line_feed : ℕ → Bool
is_line_feed byte = byte == 10

-- no byte is a line feed
abbrev pub HasNoLineFeed : List ℕ → Type 0
HasNoLineFeed bytes = list_any is_line_feed bytes ≡ false

-- A read put the next n bytes of a source behind those that lay ahead. The source's bytes before and after it are given where they are told, and n is 0 only at its end.
pub record PutsAhead (before after : Option (List ℕ)) (old new : List ℕ) (n : ℕ) : Type 0 where
  pub piece : List ℕ
  pub ahead : new ≡ old ++ piece
  pub count : length piece ≡ n
  pub taken : Consumes before after piece
  pub at_end : n ≡ 0 → IsAtEnd after
