-- What a member's calls on timers make of its seat at the queue of operations, and of the member.
use Rattle.std.specs.Prelude.{◌≡◌, ◌⊎◌, ℕ, zero, suc, ◌+◌, ◌<◌, ◌≤◌, Bool, true, false, List, ◌++◌, Result, Ok, Err}
use Rattle.aio_base.specs.declared.names.TimerId.{TimerId}
use Rattle.aio_base.specs.declared.names.Waker.{Waker}
use Rattle.aio_base.specs.declared.outcomes.CountFault.{CountFault}
use Rattle.aio_base.specs.declared.outcomes.Failed.{Failed}
use Rattle.aio_base.specs.declared.outcomes.OutOfMemory.{OutOfMemory}
use Rattle.aio_timers.specs.declared.op.TimerOp.{TimerOp}
use Rattle.aio_timers.specs.declared.op.TimerOp.TheVariants as timer_op
use Rattle.aio_rules.specs.declared.operations.OpEntry.{OpEntry}
use Rattle.aio_timers.specs.Room.{Book}
use Rattle.aio_ops.specs.Passes.{PassView, AppliesItself, Drained, Drains, FindsFull, RoseBy, pushed}
use Rattle.aio_base.specs.declared.hosts.InsertRefusal.{InsertRefusal}
use Rattle.aio_base.specs.declared.hosts.InsertRefusal.TheVariants as refusal
use Rattle.aio_base.specs.Hosts.{next_id}
use Rattle.aio_words.specs.Calls.{Offers, notify_steps}
use Rattle.aio_shared.specs.Members.{Extends, MemberValue}

-- ## The seat of a member at the queue

-- A seat that pushed nothing in between: it took these entries out of the queue, and may have found it full and empty.
pub record PushedNothing (before after : PassView) : Type 0 where
  pub entries : List (OpEntry TimerOp)
  pub pass : after ≡ record before { pulled = before.pulled ++ entries; fulls = after.fulls; empties = after.empties }
  pub fulls : before.fulls ≤ after.fulls
  pub empties : before.empties ≤ after.empties

-- One try more of a seat: it drained the queue, and then its push found it full.
pub record TriesInVain (before after : PassView) : Type 0 where
  pub room : PassView
  pub drained : Drained before room
  pub full : FindsFull room after

-- so many tries more, one after the other, each of which was in vain
abbrev pub TriesAgain : ℕ → PassView → PassView → Type 0
TriesAgain zero before after = after ≡ before
TriesAgain (suc tries) before after = (mid : PassView) × TriesAgain tries before mid × TriesInVain mid after

-- A push found the queue full, and so did that of each of so many tries more: so each push but the first came after a drain since the one before.
pub record FoundFull (tries : ℕ) (before after : PassView) : Type 0 where
  pub first : PassView
  pub full : FindsFull before first
  pub again : TriesAgain tries first after
  -- so nothing joined the queue, and each push was counted
  pub nothing : PushedNothing before after
  pub fulls : RoseBy (tries + 1) before.fulls after.fulls

-- A push found the queue full, and so did that of each of fewer than 1,000 tries more, and then the seat drained the queue once more.
pub record DrainsAgain (before after : PassView) : Type 0 where
  pub tries : ℕ
  pub few : tries < 1000
  pub last : PassView
  pub full : FoundFull tries before last
  pub drained : Drained last after

-- An operation joined the queue: the seat pushed it, at once or at one of at most 1,000 tries more, and pushed nothing else.
pub record Queued (operation : TimerOp) (before after : PassView) : Type 0 where
  pub last : PassView
  pub first : (last ≡ before) ⊎ DrainsAgain before last
  pub pushed : after ≡ pushed operation last

-- An operation was kept out of the queue: its first push found it full, and so did that of each of 1,000 tries more, and then the seat drained it
-- once more, so that nothing which it had pushed is queued any longer, and noted that it applied the operation itself. What the book became by it is
-- said by the call that drains and notes.
pub record KeptOut (operation : TimerOp) (before after : PassView) : Type 0 where
  pub last : PassView
  pub full : FoundFull 1000 before last
  pub applies : AppliesItself operation last after

-- one operation was carried out: it joined the queue, or the call applied it itself
abbrev pub CarriesOut : TimerOp → PassView → PassView → Type 0
CarriesOut operation before after = Queued operation before after ⊎ KeptOut operation before after

-- An operation was not carried out: its first push found the queue full, and so did that of each of at most 1,000 tries more, and then there was no
-- room for a drain.
pub record GivesUp (before after : PassView) : Type 0 where
  pub tries : ℕ
  pub most : tries ≤ 1000
  pub full : FoundFull tries before after

-- one try more of a seat to push an operation: it drained the queue and pushed it, or found the queue full, or there was no room to drain
abbrev pub Tries : TimerOp → PassView → PassView → Result Bool OutOfMemory → Type 0
Tries operation before after (Ok true) = (room : PassView) × Drained before room × (after ≡ pushed operation room)
Tries operation before after (Ok false) = TriesInVain before after
Tries operation before after (Err refused) = after ≡ before

-- The same over this book, which was left so: the drain, and nothing else, was done to it.
abbrev pub TriesOver : TimerOp → PassView → PassView → Book → Book → Result Bool OutOfMemory → Type 0
TriesOver operation before after found left (Ok true) =
    (count : ℕ) × (room : PassView) × Drains count before room found left × (after ≡ pushed operation room)
TriesOver operation before after found left (Ok false) = (count : ℕ) × (room : PassView) × Drains count before room found left × FindsFull room after
TriesOver operation before after found left (Err refused) = (after ≡ before) × (left.entries ≡ found.entries)

-- What carrying an operation out, or giving it up, leaves of a seat: its queue, its number and how many seats it made; what it pushed and popped still
-- stands at the front, and no count has fallen.
pub record IsLaterPass (old new : PassView) : Type 0 where
  pub queue : new.queue ≡ old.queue
  pub number : new.number ≡ old.number
  pub own : Extends old.own new.own
  pub pulled : Extends old.pulled new.pulled
  pub fulls : old.fulls ≤ new.fulls
  pub empties : old.empties ≤ new.empties

-- ## The member

-- a member's operation was not carried out, and nothing of the member changed but its seat
abbrev pub NotCarriedOut : {N : Type 0} → MemberValue N → MemberValue N → Type 0
NotCarriedOut old new = (new ≡ record old { ops = new.ops }) × GivesUp old.ops new.ops

-- A member registered a timer under the next id of its seat: it carried out the insert, and then set notified by one exchange, and called its
-- notifier exactly where that had not been set.
pub record Inserted {N : Type 0} (calls : N → ℕ) (step : N → Result (Unit {0}) Failed → N → Type 0) (at : ℕ) (waker : Waker)
    (old new : MemberValue N) (id : TimerId) (told : Result (Unit {0}) CountFault) : Type 0 where
  pub next : id ≡ next_id old.ops.number old.ids
  pub ids : new.ids ≡ old.ids + 1
  pub ops : CarriesOut (timer_op.Insert at id waker) old.ops new.ops
  pub notified : Offers calls step notify_steps old.pass.view new.pass.view old.notifier new.notifier told

-- an insert by its answer: the timer is registered, also where the notifier failed; where memory ran out it is not, and no id was drawn
abbrev pub Inserts : {N : Type 0} → (N → ℕ) → (N → Result (Unit {0}) Failed → N → Type 0) → ℕ → Waker → MemberValue N → MemberValue N
    → Result TimerId InsertRefusal → Type 0
Inserts calls step at waker old new (Ok id) = Inserted calls step at waker old new id (Ok tt)
Inserts calls step at waker old new (Err (refusal.Notify id fault)) = Inserted calls step at waker old new id (Err fault)
Inserts calls step at waker old new (Err refusal.OutOfMemory) = NotCarriedOut old new

-- a removal by its answer: it was carried out, and nothing changed but the member's seat; where memory ran out it was not
abbrev pub RemovesTimer : {N : Type 0} → ℕ → TimerId → MemberValue N → MemberValue N → Result (Unit {0}) OutOfMemory → Type 0
RemovesTimer at id old new (Ok done) = (new ≡ record old { ops = new.ops }) × CarriesOut (timer_op.Remove at id) old.ops new.ops
RemovesTimer at id old new (Err refused) = NotCarriedOut old new
