-- The first deadline of a book that a pass left.
use Rattle.std.proofs.Common.{◌≡◌, ℕ, ◌<◌, List, [], ◌∷◌, Some, ap, arith}
use Rattle.std.specs.List.{All}
use Rattle.std.proofs.lemmas.List.Elements.{All-head}
use Rattle.aio_base.specs.declared.names.TimerId.{TimerId}
use Rattle.aio_base.specs.World.{Registration}
use Rattle.aio_timers.specs.Book.{first_pair}

-- where all deadlines are later than a moment, so is the first
pub first_above : (now : ℕ) (book : List Registration) (pair : ℕ × TimerId) → All (λ (r : Registration). now < r.deadline) book → Some pair ≡ first_pair book → now < pair.0
first_above now [] pair later first = absurd (cc)
first_above now (r ∷ book) pair later first =
    let above = All-head (λ (x : Registration). now < x.deadline) r book later in
    let is : pair ≡ (r.deadline, record { 0 = r.id }) = cc in
    let same : pair.0 ≡ r.deadline = ap (λ (p : ℕ × TimerId). p.0) is in
    omega arith
