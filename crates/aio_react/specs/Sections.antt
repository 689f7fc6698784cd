-- The sections of a core's round: why each is refused, and what its answers are to the machine.
use Rattle.std.specs.Prelude.{◌≡◌, ℕ, ◌+◌, ◌-◌, ◌^◌, ◌==◌, not, if◌then◌else◌, List, [], Option, None, Some, is_some, Result, Ok, Err, unwrap_or}
use Rattle.aio_base.specs.declared.names.Waker.{Waker}
use Rattle.aio_base.specs.declared.outcomes.ArmFault.{ArmFault}
use Rattle.aio_base.specs.declared.steps.Answer.{Answer}
use Rattle.aio_base.specs.declared.steps.Answer.TheVariants as answer
use Rattle.aio_base.specs.Timers.{due_wakers, after_pass, limit_of}
use Rattle.aio_base.specs.World.{is_empty_list}
use Rattle.aio_react.specs.declared.outcomes.Handled.{Handled}
use Rattle.aio_react.specs.declared.refusals.CoreRefusal.{CoreRefusal}
use Rattle.aio_react.specs.declared.refusals.CoreRefusal.TheVariants as refusal
use Rattle.aio_source.specs.declared.in_hand.RoundFault.{RoundFault}
use Rattle.aio_react.specs.Cores.{CoreValue}
use Rattle.aio_source.specs.InHand.{RoundValue}
use Rattle.aio_react.specs.Rounds.{begun}
use Rattle.aio_react.specs.Standing.{end_word}

-- A section that takes memory is done only where nothing refuses it. It is refused by this cause where there is one, and else only for want of memory.
abbrev pub IsRefusedBy : {A : Type 0} → Option CoreRefusal → Result A CoreRefusal → Type 0
IsRefusedBy why (Ok done) = why ≡ None
IsRefusedBy why (Err refused) = refused ≡ unwrap_or why refusal.OutOfMemory

-- ## A begin

-- why no round begins: one runs, or else as many began as a number counts
abbrev pub begin_refusal : CoreValue → Option CoreRefusal
begin_refusal core =
    if core.round.running then Some refusal.Locked else (if core.ticker == 2 ^ 64 - 1 then Some refusal.RoundsSpent else None)

-- the core once a round has begun at a moment, with a given limit
abbrev pub core_begun : CoreValue → ℕ → Option ℕ → CoreValue
core_begun core now given = record core {
  ticker = core.ticker + 1;
  book = after_pass now core.book;
  round = begun (core.ticker + 1) (limit_of now core.book given) (due_wakers now core.book);
}

-- the answer of the machine, which counts rounds without end and never wants memory
abbrev pub begin_reply : Result (ℕ × Option ℕ) CoreRefusal → Option Answer
begin_reply (Ok begun) = Some (answer.Begin begun.0 begun.1)
begin_reply (Err refusal.Locked) = Some answer.Locked
begin_reply (Err refused) = None

-- ## A finish

-- the answer of the machine, which never wants memory
abbrev pub finish_reply : Result (Option RoundFault) CoreRefusal → Option Answer
finish_reply (Ok fault) = Some (answer.End (end_word fault))
finish_reply (Err refusal.NoRound) = Some answer.NoRound
finish_reply (Err (refusal.EventsLeft n)) = Some (answer.Events n)
finish_reply (Err refused) = None

-- whom a finish wakes: where it ended the round, all whose wakers the round took
abbrev pub finish_wakes : Result (Option RoundFault) CoreRefusal → RoundValue → List Waker
finish_wakes (Ok fault) ended = ended.taken
finish_wakes (Err refused) running = []

-- ## An event in hand

-- why no event is handled: no round runs, or else none is in hand
abbrev pub handle_refusal : RoundValue → Option CoreRefusal
handle_refusal r =
    if not r.running then Some refusal.NoRound else (if is_empty_list r.hand then Some refusal.NothingInHand else None)

-- the answer of the machine, which never wants memory
abbrev pub handle_reply : Result Handled CoreRefusal → Option Answer
handle_reply (Ok handled) = Some (answer.Handled handled.key (is_some handled.fault))
handle_reply (Err refusal.NoRound) = Some answer.NoRound
handle_reply (Err refusal.NothingInHand) = Some answer.Empty
handle_reply (Err refused) = None

-- the fault of an arm that the handling of an event made
abbrev pub handle_fault : Result Handled CoreRefusal → Option ArmFault
handle_fault (Ok handled) = handled.fault
handle_fault (Err refused) = None
