-- What a whole round, or the rest of one, makes of the round cell and of the member that holds it.
use Rattle.std.specs.Prelude.{◌≡◌, ◌≢◌, ◌⊎◌, ℕ, ◌+◌, ◌-◌, ◌^◌, ◌<◌, ◌≤◌, ⊤, Bool, true, false, if◌then◌else◌, List, [], ◌++◌, length, Option, None, Some, Result, Ok, Err}
use Rattle.aio_base.specs.declared.names.Waker.{Waker}
use Rattle.aio_base.specs.declared.outcomes.CountFault.{CountFault}
use Rattle.aio_rules.specs.declared.seats.WordStep.{WordStep}
use Rattle.aio_rules.specs.declared.seats.WordStep.TheVariants as word_step
use Rattle.aio_rules.specs.declared.seats.SeatView.{SeatView}
use Rattle.aio_base.specs.ClockBounds.{ClockBounds, IsWithin}
use Rattle.aio_base.specs.Devices.{Rose, raised}
use Rattle.aio_rules.specs.SharedWords.{after, blocking}
use Rattle.aio_base.specs.Timers.{after_pass, due_wakers, limit_of}
use Rattle.aio_rules.specs.WordCalls.{Found, and_did, count_of, is_raise}
use Rattle.aio_ops.specs.Passes.{PassView, Drains, Drained}
use Rattle.aio_source.specs.declared.in_hand.RoundFault.TheVariants as round_fault
use Rattle.aio_source.specs.InHand.{RoundValue}
use Rattle.aio_react.specs.Rounds.{begun, finished, given_by, second_book, second_wakers}
use Rattle.aio_timers.specs.Room.{Book}
use Rattle.aio_words.specs.Calls.{all_wake_steps}
use Rattle.aio_words.specs.Seats.{SeatValue, is_waiting}
use Rattle.aio_shared.specs.declared.reacting.ReactedIn.{ReactedIn}
use Rattle.aio_shared.specs.declared.reacting.ReactFault.{ReactFault}
use Rattle.aio_shared.specs.declared.reacting.ReactFault.TheVariants as react_fault
use Rattle.aio_shared.specs.Cells.{CellValue, Awaits, WaitTells}
use Rattle.aio_shared.specs.Members.{MemberValue}
use Rattle.aio_sources.specs.Events.{HandlesSome}
use Rattle.aio_shared.specs.TimerCalls.{PushedNothing}

-- ## The round

-- A moment that a clock with these bounds answered, between these two of its latest moments.
abbrev pub IsMoment : ClockBounds → ℕ → ℕ → ℕ → Type 0
IsMoment bounds earliest latest now = (earliest ≤ now) × (now ≤ latest) × IsWithin bounds now

-- A clock went on, or was not looked at: it has the same bounds, and its latest moment is no earlier one than it was.
pub record ClockGoesOn {C : Type 0} (bounds_of : C → ClockBounds) (latest_of : C → ℕ) (old new : C) : Type 0 where
  pub bounds : bounds_of new ≡ bounds_of old
  pub latest : latest_of old ≤ latest_of new

-- The queue of operations was drained into this book of timers, and then this was done to the book that the drain left, at a moment of the clock.
pub record DrainsThen (bounds : ClockBounds) (earliest latest : ℕ) (ops ops_after : PassView) (found : Book) (Did : ℕ → Book → Type 0) : Type 0 where
  pub count : ℕ
  pub book : Book
  pub drains : Drains count ops ops_after found book
  pub now : ℕ
  pub moment : IsMoment bounds earliest latest now
  pub did : Did now book

-- A round of this number began by a pass at this moment over this book, which was left so.
abbrev pub BegunAt : ℕ → Option ℕ → RoundValue → Book → ℕ → Book → Type 0
BegunAt number given new left now book = (new ≡ begun number (limit_of now book.entries given) (due_wakers now book.entries)) × (left.entries ≡ after_pass now book.entries)

-- A round ended at this moment, where it asks for it by a second pass over this book, which was left so.
abbrev pub FinishedAt : RoundValue → RoundValue → Book → ℕ → Book → Type 0
FinishedAt old new left now book = (new ≡ finished old (second_wakers old now book.entries)) × (left.entries ≡ second_book old now book.entries)

-- A round of this number began over this book, once the queue was drained into it: by a pass, which left the book so.
abbrev pub BeginsOver : ℕ → ClockBounds → ℕ → ℕ → Option ℕ → PassView → PassView → Book → Book → RoundValue → Type 0
BeginsOver number bounds earliest latest given ops ops_after found left new = DrainsThen bounds earliest latest ops ops_after found (BegunAt number given new left)

-- the same over some book
abbrev pub BeginsAs : ℕ → ClockBounds → ℕ → ℕ → Option ℕ → PassView → PassView → RoundValue → Type 0
BeginsAs number bounds earliest latest given ops ops_after new = (found left : Book) × BeginsOver number bounds earliest latest given ops ops_after found left new

-- A round ended over this book, once the queue was drained into it: where the round asks for it by a second pass, which left the book so.
abbrev pub FinishesOver : ClockBounds → ℕ → ℕ → PassView → PassView → Book → Book → RoundValue → RoundValue → Type 0
FinishesOver bounds earliest latest ops ops_after found left old new = DrainsThen bounds earliest latest ops ops_after found (FinishedAt old new left)

-- the same over some book
abbrev pub Finishes : ClockBounds → ℕ → ℕ → PassView → PassView → RoundValue → RoundValue → Type 0
Finishes bounds earliest latest ops ops_after old new = (found left : Book) × FinishesOver bounds earliest latest ops ops_after found left old new

-- What want of memory leaves of a book: it is as it was, or the queue was drained into it, and nothing else was done to it.
abbrev pub DrainsAtMost : PassView → PassView → Book → Book → Type 0
DrainsAtMost ops ops_after found left = ((ops_after ≡ ops) × (left.entries ≡ found.entries)) ⊎ ((count : ℕ) × Drains count ops ops_after found left)

-- ## The seat

-- A call that made no wait leaves the seat so: one that waits clears notified and blocks again, any other stays as it is.
abbrev pub Settles : Bool → SeatView → SeatView → Type 0
Settles true old new = (found : ℕ) × (new ≡ after (word_step.SwapNotified found) old)
Settles false old new = new ≡ old

-- the seat after a look at the ticker, which it knows
abbrev pub looked : SeatView → SeatView
looked v = after (word_step.LoadTicker v.seen) v

-- and once it raised the ticker
abbrev pub rose : SeatView → SeatView
rose v = after (word_step.AddTicker v.seen) (looked v)

-- The steps by which a seat did something, of which exactly one raised the ticker.
pub record RaisesOnce (old new : SeatView) : Type 0 where
  pub steps : List WordStep
  pub did : new.did ≡ old.did ++ steps
  pub once : count_of is_raise steps ≡ 1
  pub seen : new.seen ≡ old.seen + 1

-- why no round began: the ticker stands at its end, and nothing else was done; or memory ran out, after a drain at most
abbrev pub BeginRefused : ReactFault → SeatView → SeatView → RoundValue → RoundValue → PassView → PassView → Type 0
BeginRefused react_fault.RoundsSpent seat seat_after round round_after ops ops_after =
    (seat.seen ≡ 2 ^ 64 - 1) × (seat_after ≡ looked seat) × (round_after ≡ round) × (ops_after ≡ ops)
BeginRefused react_fault.OutOfMemory seat seat_after round round_after ops ops_after =
    (seat.seen ≢ 2 ^ 64 - 1) × (seat_after ≡ looked seat) × (round_after ≡ round) × PushedNothing ops ops_after
BeginRefused (react_fault.Wait fault) seat seat_after round round_after ops ops_after = ⊥
BeginRefused (react_fault.Arm fault) seat seat_after round round_after ops ops_after = ⊥
BeginRefused (react_fault.Notify fault) seat seat_after round round_after ops ops_after = ⊥

-- ## The cell

-- What a call of `react_in` was handed: the limit; the bounds of its clock, and the latest moments that this had answered before the call and after;
-- and what the half that waits tells of its waits.
pub record Start (W : Type 0) : Type 1 where
  pub given : Option ℕ
  pub bounds : ClockBounds
  pub earliest : ℕ
  pub latest : ℕ
  pub step : WaitTells W

-- what a call without a limit is handed, as far as its start tells: the bounds of the clock and its latest moment, and what the half that waits tells of
-- its waits
abbrev pub start_of : {C W : Type 0} → (C → ClockBounds) → (C → ℕ) → WaitTells W → C → Start W
start_of bounds_of latest_of step clock =
    record { given = None; bounds = bounds_of clock; earliest = latest_of clock; latest = latest_of clock; step = step }

-- the same call, with a later moment as its latest
abbrev pub until : {W : Type 0} → ℕ → Start W → Start W
until latest start = record start { latest = latest }

module _ {W : Type 0} where
  -- A round began in this call and made its wait, after a drain: it has the number to which its seat raised the ticker.
  pub record Begins (start : Start W) (old new : CellValue W) (ops ops_after : PassView) : Type 0 where
    pub room : old.seat.view.seen < 2 ^ 64 - 1
    pub begun : RoundValue
    pub begins : BeginsAs (old.seat.view.seen + 1) start.bounds start.earliest start.latest start.given ops ops_after begun
    -- the seat looked at the ticker, raised it, and cleared notified after the wait
    pub found : ℕ
    pub seat : new.seat.view ≡ after (word_step.SwapNotified found) (rose old.seat.view)
    pub waits : Awaits start.step begun new.round old.wait new.wait old.waits old.faults new.waits new.faults old.sure
    pub drained : Drained ops ops_after

  -- A call goes on with the round that ran: it begins none and makes no wait.
  pub record ResumesRound (old new : CellValue W) (ops ops_after : PassView) : Type 0 where
    pub cell : new ≡ record old { seat = new.seat }
    pub seat : Settles (is_waiting old.seat.view.mode) old.seat.view new.seat.view
    pub pass : ops_after ≡ ops

  -- A round runs that has made its wait, in this call where none ran before.
  pub record Enters (start : Start W) (old new : CellValue W) (ops ops_after : PassView) : Type 0 where
    pub begins : old.round.running ≡ false → Begins start old new ops ops_after
    pub goes_on : old.round.running ≡ true → ResumesRound old new ops ops_after
    pub running : new.round.running ≡ true
    pub words : new.seat.words ≡ old.seat.words
    pub mode : new.seat.view.mode ≡ blocking old.seat.view.mode
    pub sure : new.sure ≡ old.sure

  -- No round ran, and none began: of the cell nothing changed but its seat, which looked at the ticker.
  pub record BeginsNone (old new : CellValue W) : Type 0 where
    pub was_idle : old.round.running ≡ false
    pub cell : new ≡ record old { seat = new.seat }
    pub words : new.seat.words ≡ old.seat.words
    pub seat : Settles (is_waiting old.seat.view.mode) (looked old.seat.view) new.seat.view
    pub mode : new.seat.view.mode ≡ blocking old.seat.view.mode

  -- the same of the cell, whose seat blocks again where it waited
  abbrev pub EnterRefused : ReactFault → CellValue W → CellValue W → PassView → PassView → Type 0
  EnterRefused react_fault.RoundsSpent old new ops ops_after = BeginsNone old new × (old.seat.view.seen ≡ 2 ^ 64 - 1) × (ops_after ≡ ops)
  EnterRefused react_fault.OutOfMemory old new ops ops_after = BeginsNone old new × (old.seat.view.seen ≢ 2 ^ 64 - 1) × PushedNothing ops ops_after
  EnterRefused (react_fault.Wait fault) old new ops ops_after = ⊥
  EnterRefused (react_fault.Arm fault) old new ops ops_after = ⊥
  EnterRefused (react_fault.Notify fault) old new ops ops_after = ⊥

  -- The three things of a round that began in this call: its seat raised the ticker exactly once, the half that waits made a wait, and the member
  -- drained the queue of operations, before each of the two passes over the timers.
  pub record WholeRound (old new : CellValue W) (ops ops_after : PassView) : Type 0 where
    pub seat : RaisesOnce old.seat.view new.seat.view
    pub waits : new.waits ≡ raised old.waits
    pub between : PassView
    pub first : Drained ops between
    pub second : Drained between ops_after

  -- A round ended in this call. It was entered, its events in hand were handled, and it was finished after a drain. Its clock had answered nothing past the one
  -- moment when it was entered, with its wait; the pass at its end was made at no moment before that one.
  pub record Ends (all_sure : Bool) (start : Start W) (old new : CellValue W) (ops ops_after : PassView) : Type 0 where
    pub mid : ℕ
    pub not_before : start.earliest ≤ mid
    pub not_after : mid ≤ start.latest
    pub entered : CellValue W
    pub between : PassView
    pub enters : Enters (until mid start) old entered ops between
    pub handled : RoundValue
    pub handles : HandlesSome all_sure entered.round handled
    pub none_left : handled.hand ≡ []
    pub finishes : Finishes start.bounds mid start.latest between ops_after handled new.round
    pub cell : new ≡ record entered { round = new.round }
    pub drained : Drained between ops_after
    pub idle : new.round.running ≡ false
    pub whole : old.round.running ≡ false → WholeRound old new ops ops_after

  -- A round runs on for want of memory, with the events and the wakers that it has: some of its events were handled.
  pub record RunsOn (all_sure : Bool) (start : Start W) (old new : CellValue W) (ops ops_after : PassView) : Type 0 where
    pub entered : CellValue W
    pub between : PassView
    pub enters : Enters start old entered ops between
    pub handles : HandlesSome all_sure entered.round new.round
    pub cell : new ≡ record entered { round = new.round }
    pub drained : PushedNothing between ops_after
    pub running : new.round.running ≡ true

-- the wait failed in this call: the fault tells the two counts, and the count rose
abbrev pub WaitFailed : {W : Type 0} → CellValue W → CellValue W → CountFault → Type 0
WaitFailed old new fault = (fault ≡ record { before = old.faults; after = new.faults }) × Rose old.faults new.faults

-- ## The wakes

-- Of a seat only its steps changed: it made those of the wakes of these wakers, in order.
pub record Wakes (parkers : ℕ) (wakers : List Waker) (old new : SeatValue) : Type 0 where
  pub founds : List Found
  pub each : length founds ≡ length wakers
  pub seat : new ≡ record old { view = and_did (all_wake_steps wakers parkers founds) old.view }

-- The two counts of a fault stand between those of a notifier before and after the call, in which its count rose.
pub record IsFaultWithin (before after : ℕ) (fault : CountFault) : Type 0 where
  pub least : before ≤ fault.before
  pub most : fault.after ≤ after
  pub rose : Rose fault.before fault.after

-- the first of some faults of a notifier, and one more
abbrev pub first_fault : Option CountFault → Result (Unit {0}) CountFault → Option CountFault
first_fault (Some fault) answer = Some fault
first_fault None (Ok done) = None
first_fault None (Err fault) = Some fault

-- ## The whole call

-- the counts of faults of a member's notifier before and after a call
pub record NotifierCounts : Type 0 where
  pub before : ℕ
  pub after : ℕ

-- What is answered for a round that ended: its first fault, of which the two counts tell that the count rose between them; or else that of its wakes;
-- or else what was done, by whether the round had been running, with so many events in hand.
abbrev pub ReportsRound : RoundValue → Bool → ℕ → NotifierCounts → Result ReactedIn ReactFault → Type 0
ReportsRound round resumed in_hand notifier (Ok reacted) = (round.fault ≡ None) × (reacted.resumed ≡ resumed)
    × (reacted.events ≡ (if resumed then in_hand else given_by round.last)) × (reacted.events ≤ 1024) × (reacted.woken ≡ length round.taken)
ReportsRound round resumed in_hand notifier (Err (react_fault.Wait fault)) = (round.fault ≡ Some (round_fault.Wait fault)) × Rose fault.before fault.after
ReportsRound round resumed in_hand notifier (Err (react_fault.Arm fault)) = (round.fault ≡ Some (round_fault.Arm fault)) × Rose fault.before fault.after
ReportsRound round resumed in_hand notifier (Err (react_fault.Notify fault)) = (round.fault ≡ None) × IsFaultWithin notifier.before notifier.after fault
ReportsRound round resumed in_hand notifier (Err react_fault.RoundsSpent) = ⊥
ReportsRound round resumed in_hand notifier (Err react_fault.OutOfMemory) = ⊥

-- the answer is that a call of the notifier failed
abbrev pub NotifyFailed : Result ReactedIn ReactFault → Type 0
NotifyFailed (Ok reacted) = ⊥
NotifyFailed (Err (react_fault.Wait fault)) = ⊥
NotifyFailed (Err (react_fault.Arm fault)) = ⊥
NotifyFailed (Err (react_fault.Notify fault)) = ⊤
NotifyFailed (Err react_fault.RoundsSpent) = ⊥
NotifyFailed (Err react_fault.OutOfMemory) = ⊥

module _ {N W : Type 0} where
  -- A round ended in this call, and each waker that it took was given to `wake`, in order, also past one that failed.
  pub record Finished (parkers : ℕ) (all_sure : Bool) (start : Start W) (old new : CellValue W) (m later : MemberValue N) : Type 0 where
    pub ends : Ends all_sure start old new m.ops later.ops
    pub woke : Wakes parkers new.round.taken m.pass later.pass

  -- Memory ran out: nobody was woken, and the member did nothing but drain. No round runs, as before, or one runs on.
  pub record RanOut (all_sure : Bool) (start : Start W) (old new : CellValue W) (m later : MemberValue N) : Type 0 where
    pub member : later ≡ record m { ops = later.ops }
    pub ops : PushedNothing m.ops later.ops
    pub round : BeginsNone old new ⊎ RunsOn all_sure start old new m.ops later.ops

  -- what a call answers that ended its round, with the causes of a round's fault
  abbrev pub AnswersAs : CellValue W → CellValue W → MemberValue N → NotifierCounts → Result ReactedIn ReactFault → Type 0
  AnswersAs old new m notifier (Ok reacted) = ReportsRound new.round old.round.running (length old.round.hand) notifier (Ok reacted)
  AnswersAs old new m notifier (Err (react_fault.Wait fault)) = ReportsRound new.round old.round.running (length old.round.hand) notifier (Err (react_fault.Wait fault))
      × (m.claim.sure_of_wait ≡ false) × (old.round.running ≡ false → WaitFailed old new fault)
  AnswersAs old new m notifier (Err (react_fault.Arm fault)) = ReportsRound new.round old.round.running (length old.round.hand) notifier (Err (react_fault.Arm fault))
      × (m.claim.sure_of_arms ≡ false)
  AnswersAs old new m notifier (Err (react_fault.Notify fault)) = ReportsRound new.round old.round.running (length old.round.hand) notifier (Err (react_fault.Notify fault))
  AnswersAs old new m notifier (Err react_fault.RoundsSpent) = ⊥
  AnswersAs old new m notifier (Err react_fault.OutOfMemory) = ⊥

  -- what a call of `react_in` does, by its answer
  abbrev pub Reacts : ℕ → Bool → Start W → CellValue W → CellValue W → MemberValue N → MemberValue N → NotifierCounts → Result ReactedIn ReactFault → Type 0
  Reacts parkers all_sure start old new m later notifier (Ok reacted) =
      Finished parkers all_sure start old new m later × AnswersAs old new m notifier (Ok reacted)
  Reacts parkers all_sure start old new m later notifier (Err (react_fault.Wait fault)) =
      Finished parkers all_sure start old new m later × AnswersAs old new m notifier (Err (react_fault.Wait fault))
  Reacts parkers all_sure start old new m later notifier (Err (react_fault.Arm fault)) =
      Finished parkers all_sure start old new m later × AnswersAs old new m notifier (Err (react_fault.Arm fault))
  Reacts parkers all_sure start old new m later notifier (Err (react_fault.Notify fault)) =
      Finished parkers all_sure start old new m later × AnswersAs old new m notifier (Err (react_fault.Notify fault))
  Reacts parkers all_sure start old new m later notifier (Err react_fault.RoundsSpent) = BeginsNone old new × (later ≡ m)
  Reacts parkers all_sure start old new m later notifier (Err react_fault.OutOfMemory) = RanOut all_sure start old new m later
