-- A pair as contracts see it, and what a poll makes of it.
use Rattle.std.specs.Prelude.{◌≡◌, ◌⊎◌, ℕ, ◌+◌, ◌^◌, ◌<◌, ◌≤◌, ◌==◌, ◌||◌, Bool, true, false, zero, suc, List, [], length, Option, None, Some, Result, Ok, Err, max, ⊤}
use Rattle.std.proofs.Common.{le_trans}
use Rattle.aio_base.specs.Connections.{Telling, IsAtItsEnd}
use Rattle.aio_base.specs.Devices.{raised}
use Rattle.aio_base.specs.Polls.{IfReady}
use Rattle.aio_base.specs.Tasks.{own_waker}
use Rattle.aio_base.specs.declared.names.Dir.TheVariants.{Read, Write}
use Rattle.aio_base.specs.declared.names.Waker.{Waker}
use Rattle.aio_base.specs.declared.outcomes.CountFault.{CountFault}
use Rattle.aio_base.specs.declared.outcomes.Poll.{Poll}
use Rattle.aio_base.specs.declared.outcomes.Poll.TheVariants.{Ready, Pending}
use Rattle.aio_base.specs.declared.tasks.Cx.{Cx}
use Rattle.aio_future.specs.Timers.{TimerValue, new_timer}
use Rattle.aio_pairs.specs.Backlogs.{SideState, fresh_side}
use Rattle.aio_pairs.specs.Calls.{CallsFor, EndCall, HostGoesOn, RoseIn}
use Rattle.aio_pairs.specs.Exchanges.{Exchanged, IsLongThere, OneFailed, block, went_over}
use Rattle.aio_pairs.specs.Fits.{ToGive, Fits, to_give}
use Rattle.aio_pairs.specs.Lines.{lines, longest_line, unfinished}
use Rattle.aio_pairs.specs.declared.outcomes.PairEnd.{PairEnd}
use Rattle.aio_pairs.specs.declared.outcomes.PairEnd.TheVariants as pair
use Rattle.aio_pairs.specs.declared.outcomes.Tally.{Tally}
use Rattle.aio_base.specs.Hosts.{HostRules, has_id_left}
use Rattle.aio_relay.specs.Waiting.{GivesUp, IsSetTo, Waits, idle_from}
use Rattle.aio_relay.specs.declared.waiting.WaitFault.{WaitFault}
use Rattle.aio_relay.specs.declared.waiting.WaitFault.TheVariants as wait_fault

-- The two ends and the sides behind them; the idle time, and the moment of the last byte that went over; the timer; the number of polls; and whether
-- the last one read a block of a side.
pub record PairState (E : Type 0) : Type 0 where
  pub a : E
  pub b : E
  pub from_a : SideState
  pub from_b : SideState
  pub idle : ℕ
  pub last : ℕ
  pub timer : TimerValue
  pub polls : ℕ
  pub has_more : Bool

-- what holds of a side between two polls
pub record IsKept (side : SideState) (telling : Telling) : Type 0 where
  pub small : side.forwarded < 2 ^ 64
  pub at_end : side.ended ≡ true → IsAtItsEnd telling

pub record IsPair {E : Type 0} (told : E → Telling) (p : PairState E) : Type 0 where
  pub idle_some : 0 < p.idle
  pub idle_bound : p.idle ≤ 10 ^ 18
  pub side_a : IsKept p.from_a (told p.a)
  pub side_b : IsKept p.from_b (told p.b)

abbrev pub fresh_pair : {E : Type 0} → (a b : E) → (idle start : ℕ) → PairState E
fresh_pair a b idle start = record {
  a = a;
  b = b;
  from_a = fresh_side;
  from_b = fresh_side;
  idle = idle;
  last = start;
  timer = new_timer None None;
  polls = 0;
  has_more = false;
}

-- ## What it may come to

-- The ends that fit what both sides have to give. A last byte goes over no earlier than the one so far, and none after the moment.
abbrev pub may_come_to : {E : Type 0} → (told : E → Telling) → (sure : E → Bool) → PairState E → (notifier_sure : Bool) → (moment : ℕ) → PairEnd → Type 0
may_come_to told sure p notifier_sure moment end =
    Fits (to_give p.from_a (told p.a) (sure p.a)) (to_give p.from_b (told p.b) (sure p.b)) p.last moment p.idle notifier_sure end

pub fits-longer : (a b : ToGive) (earliest idle : ℕ) (notifier_sure : Bool) (early late : ℕ) (end : PairEnd) → early ≤ late
    → Fits a b earliest early idle notifier_sure end → Fits a b earliest late idle notifier_sure end
fits-longer a b earliest idle notifier_sure early late (pair.Idle last now) order fits = (fits.0, fits.1, fits.2, le_trans fits.3 order)
fits-longer a b earliest idle notifier_sure early late (pair.Ended to_a to_b) order fits = fits
fits-longer a b earliest idle notifier_sure early late (pair.TooLong side at) order fits = fits
fits-longer a b earliest idle notifier_sure early late (pair.ReadFault f) order fits = fits
fits-longer a b earliest idle notifier_sure early late (pair.WriteFault f) order fits = fits
fits-longer a b earliest idle notifier_sure early late (pair.ArmFault f) order fits = fits
fits-longer a b earliest idle notifier_sure early late (pair.NotifyFault f) order fits = fits
fits-longer a b earliest idle notifier_sure early late pair.OutOfMemory order fits = fits

-- ## What a poll does

-- a side that ended, and all of whose lines were written
abbrev pub IsDone : SideState → Type 0
IsDone side = (lines side.backlog ≡ []) × (side.ended ≡ true)

abbrev pub BothDone : {E : Type 0} → PairState E → Type 0
BothDone p = IsDone p.from_a × IsDone p.from_b

-- no line of either side is known to be too long
abbrev pub BothShort : {E : Type 0} → PairState E → Type 0
BothShort p = (length (unfinished p.from_a.backlog) < longest_line) × (length (unfinished p.from_b.backlog) < longest_line)

-- how many bytes went over in these calls, both ways
abbrev pub bytes_moved : (a_calls b_calls : List EndCall) → ℕ
bytes_moved a_calls b_calls =
    (length (went_over Read a_calls) + length (went_over Write b_calls)) + (length (went_over Read b_calls) + length (went_over Write a_calls))

-- whether these calls read a block of a side
abbrev pub reads_block : (a_calls b_calls : List EndCall) → Bool
reads_block a_calls b_calls = (length (went_over Read a_calls) == block) || (length (went_over Read b_calls) == block)

-- the moment of the last byte, after so many more at this one
abbrev pub last_after : (moved : ℕ) → (last now : ℕ) → ℕ
last_after zero last now = last
last_after (suc more) last now = max last now

-- What passed between the two ends in a poll at this moment: of each side a block was read at most. The timer and the count of polls are another
-- matter.
pub record Passed {E H : Type 0} (step : E → EndCall → E → Type 0) (told : E → Telling) (sure : E → Bool) (count : E → ℕ)
    (on_host : H → EndCall → H → Type 0) (host until : H) (old new : PairState E) (now : ℕ) (over : Type 0) (stop : Option PairEnd) : Type 0 where
  pub tally_a : Tally
  pub tally_b : Tally
  pub exchanged : Exchanged step told sure count on_host host until old.a old.b new.a new.b old.from_a old.from_b new.from_a new.from_b
      tally_a tally_b over stop
  pub most_of_a : length (went_over Read exchanged.exchange.a_calls) ≤ block
  pub most_of_b : length (went_over Read exchanged.exchange.b_calls) ≤ block
  pub last : new.last ≡ last_after (bytes_moved exchanged.exchange.a_calls exchanged.exchange.b_calls) old.last now
  pub idle : new.idle ≡ old.idle
  pub has_more : new.has_more ≡ reads_block exchanged.exchange.a_calls exchanged.exchange.b_calls

-- What a poll did once the exchange was over, by what it answers. Where a call ended the pair, and where the pair is done or idle, that is nothing
-- more; else the pair was to wait, and this is how that ended.
abbrev pub Follows : (stop : Option PairEnd) → (nothing : Type 0) → (waits : Result (Unit {0}) WaitFault → Type 0) → Poll PairEnd → Type 0
Follows stop nothing waits Pending = (stop ≡ None) × waits (Ok tt)
Follows stop nothing waits (Ready (pair.Ended to_a to_b)) = (stop ≡ None) × nothing
Follows stop nothing waits (Ready (pair.Idle last now)) = (stop ≡ None) × nothing
Follows stop nothing waits (Ready pair.OutOfMemory) = (stop ≡ None) × waits (Err wait_fault.OutOfMemory)
Follows stop nothing waits (Ready (pair.TooLong side at)) = (stop ≡ Some (pair.TooLong side at)) × nothing
Follows stop nothing waits (Ready (pair.ReadFault f)) = (stop ≡ Some (pair.ReadFault f)) × nothing
Follows stop nothing waits (Ready (pair.WriteFault f)) = (stop ≡ Some (pair.WriteFault f)) × nothing
Follows stop nothing waits (Ready (pair.ArmFault f)) = (stop ≡ Some (pair.ArmFault f)) × nothing
Follows stop nothing waits (Ready (pair.NotifyFault f)) =
    ((stop ≡ Some (pair.NotifyFault f)) × nothing) ⊎ ((stop ≡ None) × waits (Err (wait_fault.Notify f)))

-- Nothing that ends a pair holds of it at this moment.
pub record IsWaiting {E : Type 0} (p : PairState E) (now : ℕ) (w : Waker) (id_left : Bool) : Type 0 where
  pub not_done : ¬ BothDone p
  pub not_idle : now < p.last + p.idle
  pub timer : IsSetTo (idle_from p.last p.idle) w id_left p.timer

-- The pair after a poll is as the answer says, each end exactly where its turn has come: a line that is too long and a fault before the ends of both
-- sides, these before the idle time, and that before a wait.
abbrev pub Tells : {E : Type 0} → (failed notifier_failed : CountFault → Type 0) → PairState E → (now : ℕ) → Waker → (id_left : Bool) → Poll PairEnd → Type 0
Tells failed notifier_failed p now w id_left Pending = BothShort p × IsWaiting p now w id_left
Tells failed notifier_failed p now w id_left (Ready (pair.Ended to_a to_b)) = BothShort p × BothDone p × (to_a ≡ p.from_b.forwarded) × (to_b ≡ p.from_a.forwarded)
Tells failed notifier_failed p now w id_left (Ready (pair.Idle last at)) = BothShort p × (¬ BothDone p) × (p.last + p.idle ≤ now) × (last ≡ p.last) × (at ≡ now)
Tells failed notifier_failed p now w id_left (Ready pair.OutOfMemory) = BothShort p
Tells failed notifier_failed p now w id_left (Ready (pair.TooLong side at)) = IsLongThere p.from_a p.from_b side at
Tells failed notifier_failed p now w id_left (Ready (pair.ReadFault f)) = failed f
Tells failed notifier_failed p now w id_left (Ready (pair.WriteFault f)) = failed f
Tells failed notifier_failed p now w id_left (Ready (pair.ArmFault f)) = failed (record { before = f.before; after = f.after })
Tells failed notifier_failed p now w id_left (Ready (pair.NotifyFault f)) = notifier_failed f

-- the waker of the task that is polled so
abbrev pub own_of : Cx → Waker
own_of cx = record { 0 = own_waker cx.parker cx.mask }

-- A poll of a pair on a host: what passed between the ends, with each call for the pair's own waker, until a call ended the pair or all went over that
-- could; and what it did after that. Where it waits it wakes its own waker exactly where a block of a side was read.
pub record PollsPair {E H : Type 0} (step : E → EndCall → E → Type 0) (told : E → Telling) (sure : E → Bool) (count : E → ℕ)
    (rules : HostRules H) (later : H → H → Type 0) (notifier_sure : H → Bool)
    (old : PairState E) (host : H) (cx : Cx) (answer : Poll PairEnd) (new : PairState E) (left : H) : Type 0 where
  pub until : H
  pub stop : Option PairEnd
  pub passed : Passed step told sure count (CallsFor rules later notifier_sure (own_of cx)) host until old new cx.now (stop ≡ None) stop
  pub follows : Follows stop ((left ≡ until) × (new.timer ≡ old.timer))
      (λ result. Waits rules later notifier_sure new.has_more (idle_from new.last new.idle) cx.now (own_of cx) old.timer new.timer until left result) answer
  pub tells : Tells (OneFailed sure count old.a new.a old.b new.b) (RoseIn (rules.faults host) (rules.faults left) (notifier_sure host)) new cx.now
      (own_of cx) (has_id_left (rules.drawn left)) answer
  pub polls : new.polls ≡ raised old.polls

-- an end that is told before the pair would wait; the other two may come of the wait, too
abbrev pub IsToldBeforeWait : PairEnd → Type 0
IsToldBeforeWait (pair.Ended to_a to_b) = ⊤
IsToldBeforeWait (pair.Idle last now) = ⊤
IsToldBeforeWait (pair.TooLong side at) = ⊤
IsToldBeforeWait (pair.ReadFault f) = ⊤
IsToldBeforeWait (pair.WriteFault f) = ⊤
IsToldBeforeWait (pair.ArmFault f) = ⊤
IsToldBeforeWait (pair.NotifyFault f) = ⊥
IsToldBeforeWait pair.OutOfMemory = ⊥

-- A poll that ends a pair gives up the registration of the timer that it has then, last of all that it does to the host.
abbrev pub EndsTimer : {H : Type 0} → HostRules H → Poll PairEnd → (kept new : TimerValue) → (until left : H) → Type 0
EndsTimer rules Pending kept new until left = (new ≡ kept) × (left ≡ until)
EndsTimer rules (Ready end) kept new until left = GivesUp rules kept new until left

-- A poll of a pair as a task: what it does, and what becomes of the timer where the pair ends.
pub record PollsTask {E H : Type 0} (step : E → EndCall → E → Type 0) (told : E → Telling) (sure : E → Bool) (count : E → ℕ)
    (rules : HostRules H) (later : H → H → Type 0) (notifier_sure : H → Bool)
    (old : PairState E) (host : H) (cx : Cx) (answer : Poll PairEnd) (new : PairState E) (left : H) : Type 0 where
  pub kept : TimerValue
  pub until : H
  pub polled : PollsPair step told sure count rules later notifier_sure old host cx answer (record new { timer = kept }) until
  pub goes_on : HostGoesOn rules later host until
  pub stays : IfReady answer (λ end. IsToldBeforeWait end → kept ≡ old.timer)
  pub ends_timer : EndsTimer rules answer kept new.timer until left
  pub ends_later : HostGoesOn rules later until left

-- ## Completeness

-- the end of a pair whose sides ended, or the one answer that is always free
abbrev pub IsTheEnd : Poll PairEnd → Type 0
IsTheEnd (Ready (pair.Ended to_a to_b)) = ⊤
IsTheEnd (Ready pair.OutOfMemory) = ⊤
IsTheEnd _ = ⊥
