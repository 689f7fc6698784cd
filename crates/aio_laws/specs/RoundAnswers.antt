-- What the steps of a round are told: which of them are refused, and by which answer, and what the others tell.
use Rattle.std.specs.Prelude.{◌≡◌, ◌≢◌, ◌⊎◌, ℕ, ◌+◌, ◌-◌, ◌≤◌, Bool, if◌then◌else◌, List, [], ◌∷◌, length, map, Option, None, Some}
use Rattle.std.specs.List.{Contains}
use Rattle.aio_base.specs.declared.names.Event.{Event}
use Rattle.aio_base.specs.declared.outcomes.EndWord.{EndWord}
use Rattle.aio_base.specs.declared.outcomes.EndWord.TheVariants.{FaultWait}
use Rattle.aio_base.specs.declared.steps.Step.{Step}
use Rattle.aio_base.specs.declared.steps.Step.TheVariants as step
use Rattle.aio_base.specs.declared.steps.Answer.{Answer}
use Rattle.aio_base.specs.declared.steps.Answer.TheVariants as answer
use Rattle.aio_base.specs.World.{PollerAnswer, Succeeds, Gives, IsInterrupted, Fails, Registration, RoundState, World, is_empty_list}
use Rattle.aio_base.specs.Machine.{fault_of_round, next_answer}
use Rattle.aio_laws.specs.Succession.{events_given}

-- ## The limit of a round's waits

-- whether a limit lets no wait last longer than so many nanoseconds; no limit lets it last for good
abbrev pub LimitIsWithin : ℕ → Option ℕ → Type 0
LimitIsWithin n None = ⊥
LimitIsWithin n (Some limit) = limit ≤ n

-- the time from a moment to the deadline of a registration, and 0 where that has come
abbrev pub time_left : ℕ → Registration → ℕ
time_left now r = r.deadline - now

-- The limit of a round that begins at this moment, with these registrations and this limit given: the least of the given limit and of the times to
-- the deadlines, so 0 where one has come, whose timer the pass takes. It is at most each of them, and it is one of them; where no limit is given
-- and no timer registered there is none.
pub record IsRoundLimit (now : ℕ) (registrations : List Registration) (given limit : Option ℕ) : Type 0 where
  pub within_given : (n : ℕ) → given ≡ Some n → LimitIsWithin n limit
  pub within_times : (r : Registration) → Contains registrations r → LimitIsWithin (time_left now r) limit
  pub is_one : (n : ℕ) → limit ≡ Some n → (given ≡ Some n) ⊎ Contains (map (time_left now) registrations) n

-- ## What is told

-- A `begin` tells the number of its round, which is the next one, and its limit. It is told `locked` where a round runs.
abbrev pub BeginTold : World → Option ℕ → Option RoundState → Answer → Type 0
BeginTold w given None told = (limit : Option ℕ) × IsRoundLimit w.now w.registrations given limit × (told ≡ answer.Begin (w.rounds + 1) limit)
BeginTold w given (Some round) told = (told ≡ answer.Locked)

-- What a step tells that takes an empty hand. Where no round runs it is told so, and where events are in hand, how many.
abbrev pub with_empty_hand : Option RoundState → Answer → Answer
with_empty_hand None told = answer.NoRound
with_empty_hand (Some round) told = if is_empty_list round.in_hand then told else answer.Events (length round.in_hand)

-- what a wait tells of the poller's answer: how many events were given, or that it was interrupted or failed
abbrev pub wait_tells : PollerAnswer → Answer
wait_tells Succeeds = answer.Given 0
wait_tells (Gives events) = answer.Given (length events)
wait_tells IsInterrupted = answer.Interrupted
wait_tells Fails = answer.FaultWait

-- a `handle` tells the key of the first event in hand
abbrev pub FirstTold : List Event → Answer → Type 0
FirstTold [] told = (told ≡ answer.Empty)
FirstTold (event ∷ events) told = (failed : Bool) × (told ≡ answer.Handled event.key failed)

abbrev pub HandleTold : Option RoundState → Answer → Type 0
HandleTold None told = (told ≡ answer.NoRound)
HandleTold (Some round) told = FirstTold round.in_hand told

-- a round ends as one whose wait failed where its wait did, and only there
abbrev pub EndsAsWaited : PollerAnswer → EndWord → Type 0
EndsAsWaited Fails end = (end ≡ FaultWait)
EndsAsWaited _ end = (end ≢ FaultWait)

-- a whole round tells its number, which is the next one, how many events its wait gave, and how it ended
abbrev pub ReactTold : World → Option RoundState → PollerAnswer → Answer → Type 0
ReactTold w None waited told = (end : EndWord) × EndsAsWaited waited end × (told ≡ answer.Round (w.rounds + 1) (length (events_given waited)) end)
ReactTold w (Some round) waited told = (told ≡ answer.Locked)

-- What a step of a round is told, by the round that runs before it and its hand. A `finish` tells the first fault of its round.
abbrev pub RoundsTold : World → Step → List PollerAnswer → Answer → Type 0
RoundsTold w (step.Begin given) answers told = BeginTold w given w.round told
RoundsTold w step.Wait answers told = (told ≡ with_empty_hand w.round (wait_tells (next_answer answers)))
RoundsTold w step.Handle answers told = HandleTold w.round told
RoundsTold w step.Finish answers told = (told ≡ with_empty_hand w.round (answer.End (fault_of_round w.round)))
RoundsTold w step.React answers told = ReactTold w w.round (next_answer answers) told
RoundsTold w _ answers told = Unit {0}
