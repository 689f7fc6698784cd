-- What is read of the words of a text, whatever version it is of: the number that the first of them spells.
use Rattle.std.specs.Prelude.{◌≡◌, ℕ, ◌<◌, Bool, not, ◌==◌, get_or, List, [], ◌∷◌, Result, Err}
use Rattle.std.specs.Option.{ok_or}
use Rattle.aio_base.specs.declared.steps.LineFault.{LineFault}
use Rattle.aio_base.specs.declared.steps.LineFault.TheVariants as fault
use Rattle.aio_base.specs.Lines.{numeral, with_rest, within}

-- whether a byte is another than this one
abbrev pub is_other : ℕ → ℕ → Bool
is_other byte b = not (b == byte)

-- the bytes of a text before this place are all this byte
abbrev pub IsRun : ℕ → List ℕ → ℕ → Type 0
IsRun byte text at = (k : ℕ) → k < at → get_or text k 0 ≡ byte

-- the number up to this one that a word spells
abbrev pub up_to : ℕ → List ℕ → Result ℕ LineFault
up_to most word = ok_or (within 0 most (numeral word)) fault.Number

-- the number up to this one that a first word spells, with the words behind it
abbrev pub take_number : ℕ → List (List ℕ) → Result (ℕ × List (List ℕ)) LineFault
take_number most [] = Err fault.Count
take_number most (word ∷ words) = with_rest words (up_to most word)
