-- What a thread does inside a source.
use Rattle.std.specs.Prelude.{◌≡◌, ◌≢◌, ◌⊎◌, ℕ, Bool, false, List, Option, None, Some, Result, Ok, Err}
use Rattle.aio_base.specs.declared.outcomes.ArmFault.{ArmFault}
use Rattle.aio_base.specs.declared.outcomes.Failed.{Failed}
use Rattle.aio_base.specs.declared.outcomes.Poll.{Poll}
use Rattle.aio_base.specs.declared.outcomes.Poll.TheVariants.{Ready, Pending}
use Rattle.aio_base.specs.Devices.{ArmCall, Interests}
use Rattle.aio_source.specs.declared.source.SourceCell.{SourceCell}
use Rattle.aio_source.specs.Rules.{polling}
use Rattle.aio_source.specs.Lent.{UsesArm, arm_of, fault_of, settled, arm_answer}
use Rattle.aio_source.specs.Answers.{armed_in, poll_answer}
use Rattle.aio_future.specs.declared.visits.PollDir.{PollDir}
use Rattle.aio_source.specs.declared.visit.Visited.{Visited}

-- the answer of a poll that is not ready, as that of a try
abbrev pub unready_answer : {O : Type 0} → Poll (Result (Unit {0}) ArmFault) → Poll (Result O ArmFault)
unready_answer (Ready (Err fault)) = Ready (Err fault)
unready_answer (Ready (Ok done)) = Pending
unready_answer Pending = Pending

module _ {S : Type 0} (step : S → ArmCall → Result (Unit {0}) Failed → S → Type 0) (tells : S → Option Interests) (rest : S → List ℕ)
    (count : S → ℕ) (is_sure : S → Bool) where
  -- One poll of a direction of a source, to which the source's own connection was lent, while so many rounds had begun: what it answers, the source as it
  -- is left, and what it did with the connection.
  pub record PollsCell (poll : PollDir) (found : SourceCell S) (ticker : ℕ) (polled : Visited (Unit {0})) (put : SourceCell S) : Type 0 where
    pub answer : polled ≡ record {
      answer = poll_answer (polling found.state poll.dir poll.waker ticker).ready
          (fault_of found.state.key (count found.io) (count put.io) (arm_answer (armed_in polled.answer)));
      replaced = (polling found.state poll.dir poll.waker ticker).replaced;
    }
    pub source : put.state ≡ settled (polling found.state poll.dir poll.waker ticker).arms (arm_answer (armed_in polled.answer))
        (polling found.state poll.dir poll.waker ticker).source
    pub lent : UsesArm step tells rest count is_sure (polling found.state poll.dir poll.waker ticker).arms
        (arm_of (polling found.state poll.dir poll.waker ticker).source) (arm_answer (armed_in polled.answer)) found.io put.io

  module _ {T O : Type 0} (attempts : T → S → Option O → T → S → Type 0) where
    -- an attempt on the connection of a source, of which all else stays: what it gave, or that it would block
    pub record Attempted (attempt : T) (found : SourceCell S) (given : Option O) (left : T) (put : SourceCell S) : Type 0 where
      pub attempted : attempts attempt found.io given left put.io
      pub state : put.state ≡ found.state

    -- an attempt gave an output, with which the try ends
    pub record Gives (attempt : T) (found : SourceCell S) (tried : Visited O) (left : T) (put : SourceCell S) : Type 0 where
      pub output : O
      pub gave : Attempted attempt found (Some output) left put
      pub tried_is : tried ≡ record { answer = Ready (Ok output); replaced = None }

    -- an attempt would block, and then the direction was polled
    pub record BlocksAndPolls (poll : PollDir) (attempt : T) (found : SourceCell S) (ticker : ℕ) (polled : Visited (Unit {0})) (left : T) (put : SourceCell S) : Type 0 where
      pub between : SourceCell S
      pub blocked : Attempted attempt found None left between
      pub polls : PollsCell poll between ticker polled put

    -- an attempt would block, and the direction was not ready, with which the try ends
    pub record Waits (poll : PollDir) (attempt : T) (found : SourceCell S) (ticker : ℕ) (tried : Visited O) (left : T) (put : SourceCell S) : Type 0 where
      pub polled : Visited (Unit {0})
      pub blocks : BlocksAndPolls poll attempt found ticker polled left put
      pub unready : polled.answer ≢ Ready (Ok tt)
      pub tried_is : tried ≡ record { answer = unready_answer polled.answer; replaced = polled.replaced }

    -- an attempt would block, and the direction was ready
    pub record FindsReady (poll : PollDir) (attempt : T) (found : SourceCell S) (ticker : ℕ) (left : T) (put : SourceCell S) : Type 0 where
      pub polled : Visited (Unit {0})
      pub blocks : BlocksAndPolls poll attempt found ticker polled left put
      pub ready : polled.answer ≡ Ready (Ok tt)

    -- one attempt, and one poll where it would block: how the try ends with them, or that the direction was ready
    abbrev pub TriesOnce : PollDir → T → SourceCell S → ℕ → Option (Visited O) → T → SourceCell S → Type 0
    TriesOnce poll attempt found ticker (Some tried) left put = Gives attempt found tried left put ⊎ Waits poll attempt found ticker tried left put
    TriesOnce poll attempt found ticker None left put = FindsReady poll attempt found ticker left put

    -- the try ends with its first attempt and poll, or the direction was ready, and it ends with the second ones
    abbrev pub TriesCell : PollDir → T → SourceCell S → ℕ → Visited O → T → SourceCell S → Type 0
    TriesCell poll attempt found ticker tried left put = TriesOnce poll attempt found ticker (Some tried) left put
        ⊎ ((first : T) × (between : SourceCell S) × TriesOnce poll attempt found ticker None first between
        × TriesOnce poll first between ticker (Some tried) left put)
