-- A whole round of a core: what it answers to the machine, and what it leaves where memory ran out after its begin.
use Rattle.std.specs.Prelude.{◌≡◌, ℕ, ◌≤◌, Bool, IsTrue, List, [], ◌∷◌, map, Option, None, Some, IfSome, Result, Ok, Err}
use Rattle.aio_base.specs.declared.names.Waker.{Waker}
use Rattle.aio_base.specs.declared.steps.Answer.{Answer}
use Rattle.aio_base.specs.declared.steps.Answer.TheVariants as answer
use Rattle.aio_base.specs.declared.steps.Step.{Step}
use Rattle.aio_base.specs.declared.steps.Step.TheVariants as step
use Rattle.aio_base.specs.Devices.{PollerMove, Interests, RunOf, Rose}
use Rattle.aio_base.specs.Machine.{moved_on, react}
use Rattle.aio_base.specs.Moves.{answer_of}
use Rattle.aio_base.specs.Runs.{PolledStep, world_of}
use Rattle.aio_base.specs.Timers.{limit_of}
use Rattle.aio_base.specs.World.{PollerAnswer, World}
use Rattle.aio_react.specs.declared.outcomes.Reacted.{Reacted}
use Rattle.aio_react.specs.declared.refusals.CoreRefusal.{CoreRefusal}
use Rattle.aio_react.specs.declared.refusals.CoreRefusal.TheVariants as refusal
use Rattle.aio_source.specs.declared.in_hand.RoundFault.{RoundFault}
use Rattle.aio_source.specs.declared.in_hand.RoundFault.TheVariants.{Wait, Arm}
use Rattle.aio_react.specs.Cores.{CoreValue}
use Rattle.aio_react.specs.Meeting.{Meets, MeetsBy}
use Rattle.aio_source.specs.InHand.{RoundValue}
use Rattle.aio_react.specs.Standing.{Stands, end_word}

-- ## The answer

-- the answer of the machine, which counts rounds without end and never wants memory
abbrev pub react_reply : Result Reacted CoreRefusal → Option Answer
react_reply (Ok reacted) = Some (answer.Round reacted.number reacted.events (end_word reacted.fault))
react_reply (Err refusal.Locked) = Some answer.Locked
react_reply (Err refused) = None

-- whom a whole round wakes: all whose wakers it took
abbrev pub react_wakes : Result Reacted CoreRefusal → RoundValue → List Waker
react_wakes (Ok reacted) ended = ended.taken
react_wakes (Err refused) left = []

-- the first fault of a whole round
abbrev pub react_fault : Result Reacted CoreRefusal → Option RoundFault
react_fault (Ok reacted) = reacted.fault
react_fault (Err refused) = None

-- ## Faults since an earlier state of the poller

-- the two counts of a fault lie between these, and the count rose between them
abbrev pub RisesWithin : ℕ → ℕ → RoundFault → Type 0
RisesWithin before after (Wait fault) = (before ≤ fault.before) × Rose fault.before fault.after × (fault.after ≤ after)
RisesWithin before after (Arm fault) = (before ≤ fault.before) × Rose fault.before fault.after × (fault.after ≤ after)

-- The count did not fall, what was kept came of it, and a sure poller failed nowhere.
pub record FaultsSince {P : Type 0} (count : P → ℕ) (is_sure : P → Bool) (start now : P) (kept : Option RoundFault) : Type 0 where
  pub later : count start ≤ count now
  pub sure : is_sure now ≡ is_sure start
  pub never : IsTrue (is_sure start) → (kept ≡ None) × (count now ≡ count start)
  pub rises : IfSome kept (RisesWithin (count start) (count now))

-- ## A whole round, as one step

-- the step of the machine is this one with no limit
abbrev pub MeetsRound : {P : Type 0} → (P → PollerMove → P → Type 0) → (P → Option Interests) → Option ℕ → ℕ → Answer → List Waker
    → P × CoreValue → P × CoreValue → Type 0
MeetsRound poller_step tells given now answer wakes old new =
    MeetsBy poller_step tells (λ w answers. moved_on (react w given answers)) (Some now) answer wakes (limit_of now old.1.book given) old new

-- ## A round that was stopped

-- the moment that a section takes
abbrev pub moment_in : Step → ℕ → Option ℕ
moment_in (step.Begin given) now = Some now
moment_in s now = None

-- the limit of the waits of a section
abbrev pub limit_in : Step → RoundValue → Option ℕ
limit_in step.Wait r = r.limit
limit_in s r = None

-- a section of a round that a core did as a step of its own, for these answers of its poller
pub record Section {P : Type 0} (poller_step : P → PollerMove → P → Type 0) (tells : P → Option Interests) (now : ℕ) (old : P × CoreValue) (s : PolledStep)
    (new : P × CoreValue) : Type 0 where
  pub answer : Answer
  pub meets : Meets poller_step tells s.step (moment_in s.step now) answer [] (limit_in s.step old.1.round) old new
  pub answers_are : s.answers ≡ map answer_of meets.moves

-- the handling of some events, each as a step of its own, with what the poller answered to each
abbrev pub handles_done : List (List PollerAnswer) → List PolledStep
handles_done handled = map (λ (answers : List PollerAnswer). record { step = step.Handle; answers = answers }) handled

-- Some events were handled, each in a step of its own, and the core stands for the world that these leave.
pub record Handles {P : Type 0} (poller_step : P → PollerMove → P → Type 0) (tells : P → Option Interests) (old new : P × CoreValue) : Type 0 where
  pub handled : List (List PollerAnswer)
  pub did : (now : ℕ) → RunOf (Section poller_step tells now) old (handles_done handled) new
  pub stands : (w : World) → Stands (tells old.0) old.1 w → Stands (tells new.0) new.1 (world_of w (handles_done handled))

-- the begin of a round with a given limit, its wait, and the handling of some events, with what the poller answered to them
abbrev pub sections_done : Option ℕ → List PollerAnswer → List (List PollerAnswer) → List PolledStep
sections_done given waited handled =
    record { step = step.Begin given; answers = [] } ∷ record { step = step.Wait; answers = waited } ∷ handles_done handled

-- A whole round was stopped after its begin and its wait. Its sections were done as steps of their own, one position each, and the core stands for
-- the world that they leave.
pub record Stopped {P : Type 0} (poller_step : P → PollerMove → P → Type 0) (tells : P → Option Interests) (given : Option ℕ) (now : ℕ)
    (old new : P × CoreValue) : Type 0 where
  pub waited : List PollerAnswer
  pub handled : List (List PollerAnswer)
  pub did : RunOf (Section poller_step tells now) old (sections_done given waited handled) new
  pub stands : (w : World) → Stands (tells old.0) old.1 w → w.now ≡ now → Stands (tells new.0) new.1 (world_of w (sections_done given waited handled))
