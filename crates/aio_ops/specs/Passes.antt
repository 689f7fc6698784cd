-- What contracts see of a pass, and what its calls do.
use Rattle.std.specs.Prelude.{◌≡◌, ◌⊎◌, ℕ, ◌+◌, ◌-◌, ◌^◌, ◌<◌, ◌≤◌, List, [], ◌∷◌, ◌++◌, length, map, min, Option, None, Some}
use Rattle.atomic_table.specs.Seated.{TableId}
use Rattle.aio_base.specs.Timers.{fold_changes}
use Rattle.aio_base.specs.World.{Registration}
use Rattle.aio_timers.specs.Book.{change_of}
use Rattle.aio_timers.specs.Room.{Book}
use Rattle.aio_timers.specs.declared.op.TimerOp.{TimerOp}
use Rattle.aio_rules.specs.declared.operations.OpEntry.{OpEntry}
use Rattle.aio_rules.specs.declared.operations.PushedOp.{PushedOp}
use Rattle.aio_rules.specs.Operations.{QueuePass, queue_limit, seat_of}
use Rattle.aio_rules.specs.OperationLaws.{HasDrained}

-- A pass: the queue that it belongs to, and its number there; the entries that it pushed, each with how many it had popped by then; the entries
-- that it popped; how many of its pushes found the queue full, and how many of its pops found it empty; of the first pass alone, how many passes
-- were made, itself among them; and the last operation that it applied to a book without the queue, if there was one.
pub record PassView : Type 0 where
  pub queue : TableId
  pub number : ℕ
  pub own : List (PushedOp TimerOp)
  pub pulled : List (OpEntry TimerOp)
  pub fulls : ℕ
  pub empties : ℕ
  pub splits : ℕ
  pub applied : Option TimerOp

-- the pass as the rule of the queue has it
abbrev pub queue_pass : PassView → QueuePass TimerOp
queue_pass p = record { seat = seat_of p.number p.splits p.own p.pulled; fulls = p.fulls; empties = p.empties }

-- a pass that has pushed and popped nothing
abbrev pub new_pass : TableId → ℕ → ℕ → PassView
new_pass queue number made = record { queue = queue; number = number; own = []; pulled = []; fulls = 0; empties = 0; splits = made; applied = None }

-- the most passes of a queue
abbrev pub pass_limit : ℕ
pass_limit = 2 ^ 24

-- a count of exactly so many events more, which stands still at the end of its type
abbrev pub RoseBy : ℕ → ℕ → ℕ → Type 0
RoseBy n before after = (before ≤ after) × (after ≡ min (before + n) (2 ^ 64 - 1))

-- the entry that a pass pushes next
abbrev pub next_entry : PassView → TimerOp → OpEntry TimerOp
next_entry p op = record { pass = p.number; number = length p.own + 1; empties = p.empties; op = op }

-- a pass whose operation is in the queue
abbrev pub pushed : TimerOp → PassView → PassView
pushed op p = record p { own = p.own ++ record { entry = next_entry p op; pulled = length p.pulled } ∷ [] }

-- A push of a pass found the queue full, which the pass counted, and nothing joined the queue.
pub record FindsFull (before after : PassView) : Type 0 where
  pub pass : after ≡ record before { fulls = after.fulls }
  pub counted : RoseBy 1 before.fulls after.fulls

-- the changes of the book that these entries are
abbrev pub changed_by : List (OpEntry TimerOp) → List Registration → List Registration
changed_by entries book = fold_changes book (map (λ (e : OpEntry TimerOp). change_of e.op) entries)

-- How pops leave a pass and a book: so many entries were popped, and each was applied, in the order in which it was popped.
pub record Takes (count : ℕ) (before after : PassView) (book_before book_after : Book) : Type 0 where
  pub entries : List (OpEntry TimerOp)
  pub number : length entries ≡ count
  pub pass : after ≡ record before { pulled = before.pulled ++ entries; empties = after.empties }
  pub book : book_after.entries ≡ changed_by entries book_before.entries
  pub spare : book_before.spare ≤ book_after.spare + count

-- how a drain that took so many entries ended, by the pass's count of empty pops before and after: after 1,000 entries, with no such pop, or earlier,
-- at the only one
abbrev pub Ended : ℕ → ℕ → ℕ → Type 0
Ended count before after = ((count ≡ queue_limit) × (after ≡ before)) ⊎ ((count < queue_limit) × (after ≡ before + 1))

-- How a drain leaves them: it took so many entries, at most 1,000. It ends after 1,000 of them, or at a pop that found the queue empty.
pub record Drains (count : ℕ) (before after : PassView) (book_before book_after : Book) : Type 0 where
  pub takes : Takes count before after book_before book_after
  pub most : count ≤ queue_limit
  pub ends : Ended count before.empties after.empties
  -- no entry that it pushed is queued any longer
  pub none_left : HasDrained (queue_pass after)

-- The same of the pass alone: it took these entries, at most 1,000, and pushed nothing. It ended after 1,000 of them, or at a pop that found the
-- queue empty.
pub record Drained (before after : PassView) : Type 0 where
  pub entries : List (OpEntry TimerOp)
  pub most : length entries ≤ queue_limit
  pub pass : after ≡ record before { pulled = before.pulled ++ entries; empties = after.empties }
  pub ends : Ended (length entries) before.empties after.empties
  pub none_left : HasDrained (queue_pass after)
  pub empties : before.empties ≤ after.empties

-- the pass once it applied this operation itself
abbrev pub with_applied : TimerOp → PassView → PassView
with_applied op p = record p { applied = Some op }

-- A drain of a pass into a book, and then this operation, applied to the book that the drain left, which the pass notes.
pub record DrainsAndApplies (op : TimerOp) (before after : PassView) (book_before book_after : Book) : Type 0 where
  pub count : ℕ
  pub drained : PassView
  pub book : Book
  pub drains : Drains count before drained book_before book
  pub kept : after ≡ with_applied op drained
  pub applied : book_after.entries ≡ fold_changes book.entries (change_of op ∷ [])

-- The same of the pass alone: it was drained, and then it applied this operation itself.
pub record AppliesItself (op : TimerOp) (before after : PassView) : Type 0 where
  pub drained : PassView
  pub drain : Drained before drained
  pub kept : after ≡ with_applied op drained

-- How one pop leaves a pass: it took this operation out of the queue, with its entry; or it found none, and counted that.
abbrev pub Pops : Option TimerOp → PassView → PassView → Type 0
Pops None before after = after ≡ record before { empties = before.empties + 1 }
Pops (Some op) before after = (entry : OpEntry TimerOp) × (entry.op ≡ op) × (after ≡ record before { pulled = before.pulled ++ entry ∷ [] })
