-- What the reads of a connection in memory give.
use Rattle.std.specs.Prelude.{◌≡◌, ℕ, ◌+◌, ◌<◌, Bool, true, false, if◌then◌else◌, List, [], ◌∷◌, ◌++◌, length, take, drop, IsTrue, ⊤}
use Rattle.aio_base.specs.declared.connections.Did.{Did}
use Rattle.aio_base.specs.declared.connections.Did.TheVariants as did
use Rattle.aio_conns.specs.declared.pieces.Piece.{Piece}
use Rattle.aio_conns.specs.declared.pieces.Piece.TheVariants.{Bytes, Block}

-- what one read finds: a byte and those that follow it in its piece, or that it would block
pub data Turn : Type 0 where
  Gives : ℕ → List ℕ → Turn
  Blocks : Turn

-- these bytes of one piece come before the other turns; where there is none, they are passed over
abbrev pub bytes_before : List ℕ → List Turn → List Turn
bytes_before [] turns = turns
bytes_before (byte ∷ bytes) turns = Gives byte bytes ∷ turns

-- the turns that a piece comes to, before others
abbrev pub turn_before : Piece → List Turn → List Turn
turn_before (Bytes bytes) turns = bytes_before bytes.items turns
turn_before Block turns = Blocks ∷ turns

-- the turns that pieces come to
abbrev pub turns_of : List Piece → List Turn
turns_of [] = []
turns_of (piece ∷ pieces) = turn_before piece (turns_of pieces)

-- a piece that is not passed over
abbrev pub HasTurn : Piece → Type 0
HasTurn (Bytes bytes) = 0 < length bytes.items
HasTurn Block = ⊤

-- how many bytes a piece has, and pieces together
abbrev pub size_of : Piece → ℕ
size_of (Bytes bytes) = length bytes.items
size_of Block = 0

abbrev pub total_bytes : List Piece → ℕ
total_bytes [] = 0
total_bytes (piece ∷ pieces) = size_of piece + total_bytes pieces

-- all the bytes that are still to be read
abbrev pub bytes_left : List Turn → List ℕ
bytes_left [] = []
bytes_left (Gives byte bytes ∷ turns) = byte ∷ (bytes ++ bytes_left turns)
bytes_left (Blocks ∷ turns) = bytes_left turns

-- the turns that are still to come, and whether the end comes after them
pub record GivingValue : Type 0 where
  pub turns : List Turn
  pub ends : Bool

-- What a read with so much room comes to: it takes the turn at the front, of bytes as many as there is room for. After the last turn it finds the
-- end, or blocks for good.
abbrev pub GivesTurn : Bool → List Turn → (room : ℕ) → Did → List ℕ → List Turn → Type 0
GivesTurn ends [] room answer bytes left = (answer ≡ (if ends then did.Bytes 0 else did.Blocked)) × (bytes ≡ []) × (left ≡ [])
GivesTurn ends (Gives byte piece ∷ turns) room answer bytes left =
    (answer ≡ did.Bytes (length bytes)) × (bytes ≡ take room (byte ∷ piece)) × (left ≡ bytes_before (drop room (byte ∷ piece)) turns)
GivesTurn ends (Blocks ∷ turns) room answer bytes left = (answer ≡ did.Blocked) × (bytes ≡ []) × (left ≡ turns)

-- the relation of a read
pub record Reads (old : GivingValue) (room : ℕ) (answer : Did) (bytes : List ℕ) (new : GivingValue) : Type 0 where
  pub gives : GivesTurn old.ends old.turns room answer bytes new.turns
  pub ends : new.ends ≡ old.ends

-- a piece is an answer that a read would block
abbrev pub is_block : Piece → Bool
is_block (Bytes bytes) = false
is_block Block = true

-- no turn is that a read would block
abbrev pub NoneBlocks : List Turn → Type 0
NoneBlocks [] = ⊤
NoneBlocks (Gives byte bytes ∷ turns) = NoneBlocks turns
NoneBlocks (Blocks ∷ turns) = ⊥

-- no read ever blocks
pub record NeverBlocks (g : GivingValue) : Type 0 where
  pub turns : NoneBlocks g.turns
  pub ends : IsTrue g.ends
