-- A timer that one pass inserted and removed.
use Rattle.std.specs.Prelude.{◌≡◌, ◌≢◌, Bool, false, ◌&&◌, ◌==◌, ℕ, ◌<◌, List, ◌∷◌, ◌++◌, length, map}
use Rattle.std.specs.List.{All, AllByRecursion as Every}
use Rattle.aio_base.specs.World.{Registration}
use Rattle.aio_base.specs.Timers.{fold_changes, is_pair}
use Rattle.aio_base.specs.declared.names.TimerId.{TimerId}
use Rattle.aio_rules.specs.declared.operations.OpEntry.{OpEntry}
use Rattle.aio_rules.specs.OperationLaws.{Applied, InOrder, applied_of}
use Rattle.aio_timers.specs.Book.{change_of}
use Rattle.aio_timers.specs.declared.op.TimerOp.{TimerOp}
use Rattle.aio_timers.specs.declared.op.TimerOp.TheVariants.{Insert, Remove}

-- whether an operation puts the timer with this deadline and id into a book
abbrev pub inserts : ℕ → TimerId → TimerOp → Bool
inserts deadline id (Insert at timer waker) = (at == deadline) && (timer.0 == id.0)
inserts deadline id (Remove at timer) = false

-- the timer is not in the book
abbrev pub IsOut : ℕ → TimerId → List Registration → Type 0
IsOut deadline id book = All (λ (r : Registration). is_pair deadline id.0 r ≡ false) book

-- a book to which all this was applied
abbrev pub applied_to : List Registration → List (Applied TimerOp) → List Registration
applied_to book log = fold_changes book (map (λ (a : Applied TimerOp). change_of a.op) log)

-- One of the calls of a pass removed a timer, and so many of its operations were applied that this one is among them. No later call of the pass inserts
-- the timer again, and nothing of other passes that was applied inserts it. Then the timer is out of the book.
abbrev pub RemovedIsOut : Type 0
RemovedIsOut = (pass deadline : ℕ) (id : TimerId) (calls first later : List TimerOp) (log : List (Applied TimerOp)) (items : List (OpEntry TimerOp))
    (book : List Registration)
    → InOrder pass calls log items → calls ≡ first ++ Remove deadline id ∷ later → length first < length (applied_of pass log)
    → Every (λ (op : TimerOp). inserts deadline id op ≡ false) later
    → Every (λ (a : Applied TimerOp). a.pass ≢ pass → inserts deadline id a.op ≡ false) log
    → IsOut deadline id (applied_to book log)
