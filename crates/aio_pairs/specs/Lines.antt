-- The whole lines at the front of some bytes.
use Rattle.std.specs.Prelude.{◌≡◌, ℕ, ◌<◌, ◌==◌, Bool, false, nat_lt, if◌then◌else◌, List, [], ◌∷◌, ◌++◌, length, drop, ⊤}
use Rattle.std.specs.List.{list_any}

abbrev pub is_line_feed : ℕ → Bool
is_line_feed byte = byte == 10

abbrev pub HasNoLineFeed : List ℕ → Type 0
HasNoLineFeed bytes = list_any is_line_feed bytes ≡ false

-- Bytes are gathered into `part` until a line feed completes their line. A line is passed on where it has at most `limit` bytes, its line feed among
-- them; at a longer one everything stops. What no line feed follows is no line.
abbrev pub lines_behind : (limit : ℕ) → (part bytes : List ℕ) → List ℕ
lines_behind limit part [] = []
lines_behind limit part (byte ∷ bytes) =
    if is_line_feed byte
    then (if nat_lt (length part) limit then part ++ byte ∷ lines_behind limit [] bytes else [])
    else lines_behind limit (part ++ byte ∷ []) bytes

-- the most bytes of a line, with its line feed
abbrev pub longest_line : ℕ
longest_line = 4096

abbrev pub lines : List ℕ → List ℕ
lines bytes = lines_behind longest_line [] bytes

-- what stands behind the whole lines: the begin of a line, or a line that is too long with all that comes after it
abbrev pub unfinished : List ℕ → List ℕ
unfinished bytes = drop (length (lines bytes)) bytes

-- ## The same without a walk over the bytes

pub record IsPrefix (prefix bytes : List ℕ) : Type 0 where
  pub suffix : List ℕ
  pub is : bytes ≡ prefix ++ suffix

-- texts, each with a line feed behind it
abbrev pub terminated : List (List ℕ) → List ℕ
terminated [] = []
terminated (text ∷ texts) = text ++ 10 ∷ terminated texts

-- none of the texts has a line feed, and with its own each has at most `limit` bytes
abbrev pub AreTexts : (limit : ℕ) → List (List ℕ) → Type 0
AreTexts limit [] = ⊤
AreTexts limit (text ∷ texts) = HasNoLineFeed text × (length text < limit) × AreTexts limit texts

-- bytes that are whole lines and nothing beside
pub record AreLines (limit : ℕ) (bytes : List ℕ) : Type 0 where
  pub texts : List (List ℕ)
  pub each : AreTexts limit texts
  pub is : bytes ≡ terminated texts
