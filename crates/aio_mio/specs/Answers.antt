-- What is made of the system's answers.
use Rattle.std.specs.Prelude.{◌≡◌, ℕ, Bool, false, ◌<◌, ◌≤◌, Result, Ok, Err, ⊤}
use Rattle.aio_base.specs.declared.connections.Did.{Did}
use Rattle.aio_base.specs.declared.connections.Did.TheVariants.{Bytes, Blocked}
use Rattle.aio_base.specs.declared.outcomes.Failed.{Failed}

-- the same answer, but for what an error carried
abbrev pub KeepsOk : {T E : Type 0} → Result T E → Result T Failed → Type 0
KeepsOk (Ok value) answer = answer ≡ Ok value
KeepsOk (Err error) (Ok value) = ⊥
KeepsOk (Err error) (Err failed) = ⊤

-- at least so many bytes went over, and at most so many, where any did
abbrev pub MovesWithin : ℕ → ℕ → Did → Type 0
MovesWithin least most (Bytes n) = (least ≤ n) × (n ≤ most)
MovesWithin least most Blocked = ⊤

-- A call with room for so many bytes was blocked, or some went over and fewer than there was room for, of a source of which that shows it.
abbrev pub WentDry : Result Did Failed → ℕ → (unsure : Bool) → Type 0
WentDry (Ok (Bytes n)) room unsure = (unsure ≡ false) × (0 < n) × (n < room)
WentDry (Ok Blocked) room unsure = ⊤
WentDry (Err failed) room unsure = ⊥

-- how many bytes went over
abbrev pub moved : Did → ℕ
moved (Bytes n) = n
moved Blocked = 0

-- the same of a call that may have failed, which moves none
abbrev pub bytes_of : {E : Type 0} → Result Did E → ℕ
bytes_of (Ok did) = moved did
bytes_of (Err error) = 0
