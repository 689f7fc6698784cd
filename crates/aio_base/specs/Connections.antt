-- What connections and ports tell, and what their calls make of it.
use Rattle.std.specs.Prelude.{◌≡◌, ◌≢◌, ℕ, ◌<◌, ◌≤◌, ◌==◌, Bool, true, false, is_some, IsTrue, if◌then◌else◌, List, [], ◌∷◌, ◌++◌, length, take, drop, slice_index_or, Option, None, Some, IfSome, Result, Ok, Err, ⊤}
use Rattle.aio_base.specs.declared.outcomes.Failed.{Failed}
use Rattle.aio_base.specs.declared.connections.Did.{Did}
use Rattle.aio_base.specs.declared.connections.Did.TheVariants.{Bytes, Blocked}

-- ## What a connection tells

-- what is left to read and what was sent, each where it is told; whether the connection ends after what is left; and whether it is prompt
pub record Telling : Type 0 where
  pub left : Option (List ℕ)
  pub ends : Bool
  pub sent : Option (List ℕ)
  pub prompt : Bool

-- nothing is left, where that is told, and the connection ends there
abbrev pub IsAtItsEnd : Telling → Type 0
IsAtItsEnd t = IfSome t.left (λ bytes. (bytes ≡ []) × IsTrue t.ends)

-- ## What its calls make of that

-- These bytes were the first of what is left, which are left no longer. What is told stays told, and what is not told stays untold.
abbrev pub Takes : Option (List ℕ) → Option (List ℕ) → List ℕ → Type 0
Takes None None bytes = ⊤
Takes None (Some new) bytes = ⊥
Takes (Some old) None bytes = ⊥
Takes (Some old) (Some new) bytes = old ≡ bytes ++ new

-- What was sent grows by these bytes where it is told before and after. It may cease to be told only where a byte was sent, and what is not told stays
-- untold.
abbrev pub Joins : Option (List ℕ) → Option (List ℕ) → List ℕ → Type 0
Joins None None bytes = ⊤
Joins None (Some new) bytes = ⊥
Joins (Some old) None bytes = bytes ≢ []
Joins (Some old) (Some new) bytes = new ≡ old ++ bytes

-- A read took these bytes. What it means that it was blocked, and that it found the end, is given; a prompt connection is never blocked.
pub record ReadTells (old new : Telling) (bytes : List ℕ) (blocked ended : Type 0) : Type 0 where
  pub taken : Takes old.left new.left bytes
  pub at_end : ended → IsAtItsEnd new
  pub ends : new.ends ≡ old.ends
  pub sent : new.sent ≡ old.sent
  pub prompt : new.prompt ≡ old.prompt
  pub never : IsTrue old.prompt → ¬ blocked

-- A write sent these bytes. What it means that it was blocked is given; a prompt connection is never blocked.
pub record WriteTells (old new : Telling) (bytes : List ℕ) (blocked : Type 0) : Type 0 where
  pub joined : Joins old.sent new.sent bytes
  pub left : new.left ≡ old.left
  pub ends : new.ends ≡ old.ends
  pub prompt : new.prompt ≡ old.prompt
  pub never : IsTrue old.prompt → ¬ blocked

-- how many bytes went over
abbrev pub did_count : Result Did Failed → ℕ
did_count (Ok (Bytes n)) = n
did_count (Ok Blocked) = 0
did_count (Err failed) = 0

-- a write that sent bytes sent one at least, and no more than it was handed
abbrev pub SendsWithin : ℕ → Result Did Failed → Type 0
SendsWithin room (Ok (Bytes n)) = (0 < n) × (n ≤ room)
SendsWithin room (Ok Blocked) = ⊤
SendsWithin room (Err failed) = ⊤

-- one call of a connection with its answer: a read with the room that it had and the bytes that it read, a write with the piece that it was handed
pub data ConnMove : Type 0 where
  ReadOf : ℕ → Result Did Failed → List ℕ → ConnMove
  WriteOf : List ℕ → Result Did Failed → ConnMove

-- ## The rest of a connection

abbrev pub one_if : Bool → ℕ
one_if true = 1
one_if false = 0

abbrev pub bytes_of : Option (List ℕ) → List ℕ
bytes_of None = []
bytes_of (Some bytes) = bytes

-- The layout of a connection's rest. Six numbers: 1 where it is sure, 1 where it is prompt, 1 where it tells what is left, 1 where it ends after that,
-- 1 where it tells what was sent, each else 0, and how many bytes are left. Then the bytes that are left, then those that were sent.
abbrev pub rest_of : Bool → Telling → List ℕ
rest_of sure t =
    one_if sure ∷ one_if t.prompt ∷ one_if (is_some t.left) ∷ one_if t.ends ∷ one_if (is_some t.sent) ∷ length (bytes_of t.left)
    ∷ (bytes_of t.left ++ bytes_of t.sent)

abbrev pub number_at : List ℕ → ℕ → ℕ
number_at rest n = slice_index_or rest n 0

abbrev pub sure_read : List ℕ → Bool
sure_read rest = number_at rest 0 == 1

-- what a rest of this layout tells
abbrev pub telling_read : List ℕ → Telling
telling_read rest = record {
  left = if number_at rest 2 == 1 then Some (take (number_at rest 5) (drop 6 rest)) else None;
  ends = number_at rest 3 == 1;
  sent = if number_at rest 4 == 1 then Some (drop (number_at rest 5) (drop 6 rest)) else None;
  prompt = number_at rest 1 == 1;
}

-- what a connection tells that tells nothing: neither its bytes nor that it ends, nor that it is prompt
abbrev pub untold : Telling
untold = record { left = None; ends = false; sent = None; prompt = false }

-- ## Ports

-- the port in use: the one that was asked for, and for 0 the port's own where it tells it
abbrev pub IsInUse : Option ℕ → ℕ → ℕ → Type 0
IsInUse None asked port = asked ≢ 0 → port ≡ asked
IsInUse (Some own) asked port = port ≡ (if asked == 0 then own else asked)

-- What is left to be handed out, where it is told: a connection that is handed out was the first of them. What is told stays told, and what is not told
-- stays untold.
abbrev pub HandsOut : {C : Type 0} → Option (List C) → Result C Failed → Option (List C) → Type 0
HandsOut None answer None = ⊤
HandsOut None answer (Some new) = ⊥
HandsOut (Some old) answer None = ⊥
HandsOut (Some old) (Ok conn) (Some new) = old ≡ conn ∷ new
HandsOut (Some old) (Err failed) (Some new) = new ≡ old
