-- What a step leaves of the running round: the events in hand, what its last wait was answered, and its first fault.
use Rattle.std.specs.Prelude.{◌≡◌, true, if◌then◌else◌, List, [], ◌∷◌, Option, None, Some}
use Rattle.aio_base.specs.declared.names.Key.{Key}
use Rattle.aio_base.specs.declared.names.Event.{Event}
use Rattle.aio_base.specs.declared.outcomes.EndWord.{EndWord}
use Rattle.aio_base.specs.declared.outcomes.EndWord.TheVariants.{Clean, FaultWait, FaultArm}
use Rattle.aio_base.specs.declared.steps.Step.{Step}
use Rattle.aio_base.specs.declared.steps.Step.TheVariants as step
use Rattle.aio_base.specs.declared.steps.Answer.{Answer}
use Rattle.aio_base.specs.declared.steps.Answer.TheVariants as answer
use Rattle.aio_base.specs.World.{PollerAnswer, Gives, IsInterrupted, Fails, RoundState, World}
use Rattle.aio_base.specs.Machine.{fault_of_round, hand_of, next_answer}
use Rattle.aio_laws.specs.Arming.{is_clean}
use Rattle.aio_laws.specs.Succession.{events_given}

-- the first event leaves a hand, and it is of this key
pub record TakesFirst (key : Key) (before after : List Event) : Type 0 where
  pub event : Event
  pub of_key : event.key ≡ key
  pub hand : before ≡ event ∷ after

-- How a step moves the hand, by the poller's answer to its wait and by its own answer. A round begins with an empty hand; a wait takes the events
-- that the poller gave, and none where it was interrupted or failed; a handled event leaves. No other step changes the hand. Where no round runs
-- none is in it.
abbrev pub HandMoves : Step → PollerAnswer → Answer → List Event → List Event → Type 0
HandMoves (step.Begin given) waited (answer.Begin number limit) before after = (after ≡ [])
HandMoves step.Wait waited (answer.Given count) before after = (after ≡ events_given waited)
HandMoves step.Wait waited answer.Interrupted before after = (after ≡ [])
HandMoves step.Wait waited answer.FaultWait before after = (after ≡ [])
HandMoves step.Handle waited (answer.Handled key failed) before after = TakesFirst key before after
HandMoves _ waited told before after = (after ≡ before)

-- what the last wait of a round was answered: none before its first one, and none where no round runs
abbrev pub last_wait_of : Option RoundState → Option PollerAnswer
last_wait_of None = None
last_wait_of (Some round) = round.last_wait

abbrev pub last_wait_after : Step → PollerAnswer → Answer → Option PollerAnswer → Option PollerAnswer
last_wait_after (step.Begin given) waited (answer.Begin number limit) before = None
last_wait_after step.Wait waited (answer.Given count) before = Some (Gives (events_given waited))
last_wait_after step.Wait waited answer.Interrupted before = Some IsInterrupted
last_wait_after step.Wait waited answer.FaultWait before = Some Fails
last_wait_after step.Finish waited (answer.End word) before = None
last_wait_after _ waited told before = before

-- the first fault of a round is kept
abbrev pub fault_kept : EndWord → EndWord → EndWord
fault_kept before new = if is_clean before then new else before

abbrev pub fault_after : Step → Answer → EndWord → EndWord
fault_after (step.Begin given) (answer.Begin number limit) before = Clean
fault_after step.Wait answer.FaultWait before = fault_kept before FaultWait
fault_after step.Handle (answer.Handled key true) before = fault_kept before FaultArm
fault_after step.Finish (answer.End word) before = Clean
fault_after _ told before = before

pub record HandFollows (w : World) (s : Step) (answers : List PollerAnswer) (told : Answer) (v : World) : Type 0 where
  pub hand : HandMoves s (next_answer answers) told (hand_of w.round) (hand_of v.round)
  pub waited : last_wait_of v.round ≡ last_wait_after s (next_answer answers) told (last_wait_of w.round)
  pub fault : fault_of_round v.round ≡ fault_after s told (fault_of_round w.round)
