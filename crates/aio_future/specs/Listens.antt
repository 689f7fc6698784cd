-- The polls of a listener over an entered source, and what its giving up leaves.
use Rattle.std.specs.Prelude.{◌≡◌, ◌↔◌, ℕ, ◌+◌, ◌-◌, ◌^◌, Bool, List, Option, None, Some, IfSome, Result, Ok, Err, IsErrOf}
use Rattle.aio_base.specs.Devices.{ArmCall, Interests}
use Rattle.aio_base.specs.declared.names.Dir.{Dir}
use Rattle.aio_base.specs.declared.names.Waker.{Waker}
use Rattle.aio_base.specs.declared.outcomes.ArmFault.{ArmFault}
use Rattle.aio_base.specs.declared.outcomes.Failed.{Failed}
use Rattle.aio_base.specs.declared.outcomes.Poll.{Poll}
use Rattle.aio_base.specs.declared.outcomes.Poll.TheVariants.{Ready, Pending}
use Rattle.aio_listen.specs.Listening.{Holds}
use Rattle.aio_source.specs.Answers.{armed_first, armed_in, listened_in, poll_answer, ticket_in}
use Rattle.aio_source.specs.Lent.{UsesArm, arm_of, fault_of, settled, arm_answer}
use Rattle.aio_source.specs.Rules.{direction_of, listening_first, polling_again, unlistened}
use Rattle.aio_source.specs.Values.{SourceValue}
use Rattle.aio_source.specs.declared.answers.Listened.{Listened}
use Rattle.aio_source.specs.declared.answers.ListenRefusal.{ListenRefusal}
use Rattle.aio_source.specs.declared.answers.ListenRefusal.TheVariants as refusal

-- A listener's first poll: the ticket that it drew with the two numbers that it remembers, the source that is left, and at most one arm of the object.
pub record Listens {C : Type 0} (step : C → ArmCall → Result (Unit {0}) Failed → C → Type 0) (tells : C → Option Interests) (rest : C → List ℕ) (count : C → ℕ)
    (is_sure : C → Bool) (dir : Dir) (w : Waker) (ticker : ℕ) (old : SourceValue) (io_old : C) (first : Result Listened ListenRefusal) (new : SourceValue) (io_new : C) : Type 0 where
  pub listened : IfSome (listened_in first) (λ l. (l.a ≡ ticker) × (l.b ≡ (direction_of old.directions dir).tick))
  pub serial : IfSome (ticket_in first) (λ t. t.serial ≡ (direction_of old.directions dir).listeners.drawn + 1)
  pub fresh : IfSome (ticket_in first) (λ t. ¬ Holds (direction_of old.directions dir).listeners.entries t)
  pub spent : IsErrOf first refusal.TicketsSpent ↔ ((direction_of old.directions dir).listeners.drawn ≡ 2 ^ 64 - 1)
  pub fault : armed_first first ≡ fault_of old.key (count io_old) (count io_new) (arm_answer (armed_first first))
  pub after : let p = listening_first old dir w (ticket_in first) in new ≡ settled p.arms (arm_answer (armed_first first)) p.source
  pub lent : let p = listening_first old dir w (ticket_in first) in UsesArm step tells rest count is_sure p.arms (arm_of p.source) (arm_answer (armed_first first)) io_old io_new

-- A listener's later poll: ready where the last round of its direction is above both numbers, and so at every poll after that.
pub record ListensAgain {C : Type 0} (step : C → ArmCall → Result (Unit {0}) Failed → C → Type 0) (tells : C → Option Interests) (rest : C → List ℕ) (count : C → ℕ)
    (is_sure : C → Bool) (dir : Dir) (w : Waker) (l : Listened) (old : SourceValue) (io_old : C) (later : Poll (Result (Unit {0}) ArmFault)) (new : SourceValue) (io_new : C) : Type 0 where
  pub answer : let p = polling_again old dir l w in later ≡ poll_answer p.ready (fault_of old.key (count io_old) (count io_new) (arm_answer (armed_in later)))
  pub after : let p = polling_again old dir l w in new ≡ settled p.arms (arm_answer (armed_in later)) p.source
  pub lent : let p = polling_again old dir l w in UsesArm step tells rest count is_sure p.arms (arm_of p.source) (arm_answer (armed_in later)) io_old io_new

-- what a first poll that comes to this answers: pending, or why there is no waiting
abbrev pub first_answer : Result Listened ListenRefusal → Poll (Result (Unit {0}) ListenRefusal)
first_answer (Ok listened) = Pending
first_answer (Err refused) = Ready (Err refused)

-- what a later poll that comes to this answers; its listener stays where the object could not be armed
abbrev pub later_answer : Listened → Poll (Result (Unit {0}) ArmFault) → Poll (Result (Unit {0}) ListenRefusal)
later_answer l (Ready (Ok done)) = Ready (Ok tt)
later_answer l (Ready (Err fault)) = Ready (Err (refusal.ArmFault fault l))
later_answer l Pending = Pending

pub record PollsFirst {C : Type 0} (step : C → ArmCall → Result (Unit {0}) Failed → C → Type 0) (tells : C → Option Interests) (rest : C → List ℕ) (count : C → ℕ)
    (is_sure : C → Bool) (dir : Dir) (w : Waker) (ticker : ℕ) (old : SourceValue) (io_old : C) (result : Poll (Result (Unit {0}) ListenRefusal))
    (kept : Option Listened) (new : SourceValue) (io_new : C) : Type 0 where
  pub first : Result Listened ListenRefusal
  pub listens : Listens step tells rest count is_sure dir w ticker old io_old first new io_new
  pub answer : result ≡ first_answer first
  pub keeps : kept ≡ listened_in first

pub record PollsAgain {C : Type 0} (step : C → ArmCall → Result (Unit {0}) Failed → C → Type 0) (tells : C → Option Interests) (rest : C → List ℕ) (count : C → ℕ)
    (is_sure : C → Bool) (dir : Dir) (w : Waker) (l : Listened) (old : SourceValue) (io_old : C) (result : Poll (Result (Unit {0}) ListenRefusal))
    (kept : Option Listened) (new : SourceValue) (io_new : C) : Type 0 where
  pub later : Poll (Result (Unit {0}) ArmFault)
  pub listens : ListensAgain step tells rest count is_sure dir w l old io_old later new io_new
  pub answer : result ≡ later_answer l later
  pub keeps : kept ≡ Some l

-- A poll of what was not polled yet, or of a listener: which listener is kept then.
abbrev pub ReadyPolls : {C : Type 0} → (C → ArmCall → Result (Unit {0}) Failed → C → Type 0) → (C → Option Interests) → (C → List ℕ) → (C → ℕ) → (C → Bool)
    → Dir → Waker → (ticker : ℕ) → Option Listened → SourceValue → C → Poll (Result (Unit {0}) ListenRefusal) → Option Listened → SourceValue → C → Type 0
ReadyPolls step tells rest count is_sure dir w ticker None old io_old result kept new io_new =
    PollsFirst step tells rest count is_sure dir w ticker old io_old result kept new io_new
ReadyPolls step tells rest count is_sure dir w ticker (Some l) old io_old result kept new io_new =
    PollsAgain step tells rest count is_sure dir w l old io_old result kept new io_new

-- the listener goes, where there is one
abbrev pub ClosesListener : Dir → Option Listened → SourceValue → SourceValue → Type 0
ClosesListener dir None old new = new ≡ old
ClosesListener dir (Some l) old new = new ≡ unlistened old dir l.ticket
