-- Which bytes are the name of a task.
use Rattle.std.specs.Prelude.{◌≡◌, ℕ, Bool, true, false, ◌&&◌, ◌||◌, nat_le, nat_lt, List, [], ◌∷◌, length}
use Rattle.std.specs.List.{list_all}

-- a small letter
abbrev pub is_letter : ℕ → Bool
is_letter b = nat_le 97 b && nat_le b 122

abbrev pub is_digit : ℕ → Bool
is_digit b = nat_le 48 b && nat_le b 57

-- a name goes on with letters and digits
abbrev pub is_later : ℕ → Bool
is_later b = is_letter b || is_digit b

-- the most bytes of a name
abbrev pub name_bytes : ℕ
name_bytes = 16

-- a letter, then letters and digits, no more than that in all
abbrev pub is_name : List ℕ → Bool
is_name [] = false
is_name (b ∷ bytes) = is_letter b && (nat_lt (length bytes) name_bytes && list_all is_later bytes)

abbrev pub IsName : List ℕ → Type 0
IsName name = is_name name ≡ true
