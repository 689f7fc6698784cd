-- Rows of items, from whose fronts items are taken in turn.
use Rattle.std.specs.Prelude.{◌≡◌, ℕ, ◌+◌, ◌*◌, ◌<◌, List, [], ◌∷◌, ◌++◌, length, ⊤}

-- No item is next: there is no row, or the one whose turn it is has none.
abbrev pub IsOver : {X : Type 0} → List (List X) → Type 0
IsOver [] = ⊤
IsOver ([] ∷ rows) = ⊤
IsOver ((x ∷ row) ∷ rows) = ⊥

-- This item is at the front of the first row, and this holds of what is left when it is taken: that row is then the last one.
abbrev pub IsAtTurn : {X : Type 0} → List (List X) → X → (List (List X) → Type 0) → Type 0
IsAtTurn [] x Holds = ⊥
IsAtTurn ([] ∷ rows) x Holds = ⊥
IsAtTurn ((first ∷ row) ∷ rows) x Holds = (first ≡ x) × Holds (rows ++ row ∷ [])

-- These are the items that the rows give in turn, up to the first turn of a row that has none: one of each row, then a second one of each, and so on.
abbrev pub GivesInTurn : {X : Type 0} → List (List X) → List X → Type 0
GivesInTurn rows [] = IsOver rows
GivesInTurn rows (x ∷ xs) = IsAtTurn rows x (λ left. GivesInTurn left xs)

-- how many items all rows have
abbrev pub count_all : {X : Type 0} → List (List X) → ℕ
count_all [] = 0
count_all (row ∷ rows) = length row + count_all rows

-- Of so many items that were dealt to so many rows, each row has its share: the row at a place has an item of a turn only where the item behind which it came
-- there is among them.
abbrev pub HaveShares : {X : Type 0} → (total count place : ℕ) → List (List X) → Type 0
HaveShares total count place [] = ⊤
HaveShares total count place (row ∷ rows) = (length row * count + place < total + count) × HaveShares total count (place + 1) rows
