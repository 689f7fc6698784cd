-- Which calls of the poller a step makes, that it tells where its calls failed, and that no interest changes without one.
use Rattle.std.specs.Prelude.{◌≡◌, ◌≢◌, ◌⊎◌, ℕ, ◌+◌, ◌≤◌, Bool, true, false, not, ◌||◌, if◌then◌else◌, List, [], ◌∷◌, drop, find, length, None, Some}
use Rattle.std.specs.List.{Contains}
use Rattle.aio_base.specs.declared.names.Key.{Key}
use Rattle.aio_base.specs.declared.names.Waker.{Waker}
use Rattle.aio_base.specs.declared.names.Dir.{Dir}
use Rattle.aio_base.specs.declared.names.Event.{Event}
use Rattle.aio_base.specs.declared.outcomes.EndWord.{EndWord}
use Rattle.aio_base.specs.declared.outcomes.EndWord.TheVariants.{Clean, FaultWait, FaultArm}
use Rattle.aio_base.specs.declared.outcomes.Which.{Which}
use Rattle.aio_base.specs.declared.outcomes.Which.TheVariants as which
use Rattle.aio_base.specs.declared.steps.Step.{Step}
use Rattle.aio_base.specs.declared.steps.Step.TheVariants as step
use Rattle.aio_base.specs.declared.steps.Answer.{Answer}
use Rattle.aio_base.specs.declared.steps.Answer.TheVariants as answer
use Rattle.aio_base.specs.World.{PollerAnswer, ListenerEntry, ArmedDirection, World, serial_of, is_empty_list, is_idle, wanted, is_broken, is_armed, clear_armed}
use Rattle.aio_base.specs.Machine.{is_listener, fails, next_answer, later_answers}
use Rattle.aio_laws.specs.Interests.{InterestsFollow}
use Rattle.aio_laws.specs.Succession.{has_to_wait, events_given}

-- no call, or one arm
abbrev pub MayArm : List Which → Type 0
MayArm calls = (calls ≡ []) ⊎ (calls ≡ which.Arm ∷ [])

-- no call of another kind
abbrev pub OnlyArms : List Which → Type 0
OnlyArms calls = (call : Which) → Contains calls call → call ≡ which.Arm

-- The calls of a step, by its answer. An `add` that is not refused registers its source, and a `del` takes its out, also where the poller fails. A poll
-- that stays pending and an event that is handled may arm, and do where they tell that this failed. A wait waits once; a whole round waits
-- once, and arms after that. No other step calls the poller, and none that is refused.
abbrev pub CallsFit : Step → Answer → List Which → Type 0
CallsFit step.Add (answer.KeyIs key) calls = (calls ≡ which.Add ∷ [])
CallsFit step.Add answer.FaultAdd calls = (calls ≡ which.Add ∷ [])
CallsFit (step.Del key) answer.Gone calls = (calls ≡ which.Remove ∷ [])
CallsFit (step.Del key) answer.FaultRemove calls = (calls ≡ which.Remove ∷ [])
CallsFit (step.Poll key dir waker) answer.Pending calls = MayArm calls
CallsFit (step.Poll key dir waker) answer.FaultArm calls = (calls ≡ which.Arm ∷ [])
CallsFit (step.StepEar number waker) answer.Pending calls = MayArm calls
CallsFit (step.StepEar number waker) answer.FaultArm calls = (calls ≡ which.Arm ∷ [])
CallsFit step.Wait (answer.Given count) calls = (calls ≡ which.Wait ∷ [])
CallsFit step.Wait answer.Interrupted calls = (calls ≡ which.Wait ∷ [])
CallsFit step.Wait answer.FaultWait calls = (calls ≡ which.Wait ∷ [])
CallsFit step.Handle (answer.Handled key false) calls = MayArm calls
CallsFit step.Handle (answer.Handled key true) calls = (calls ≡ which.Arm ∷ [])
CallsFit step.React (answer.Round number events end) calls = (arms : List Which) × (calls ≡ which.Wait ∷ arms) × OnlyArms arms
CallsFit s told calls = (calls ≡ [])

-- one arm where there has to be one
abbrev pub arms_where : Bool → List Which
arms_where true = which.Arm ∷ []
arms_where false = []

-- a poll of a direction has to arm its source: nobody waits there yet, or the last arm of the source failed
abbrev pub has_to_arm : World → ℕ → Dir → Bool
has_to_arm w serial dir = is_idle w serial dir || is_broken w serial

-- Where a poll and a handled event arm: just where they have to.
pub record ArmsAsNeeded (w : World) (s : Step) (told : Answer) (calls : List Which) (v : World) : Type 0 where
  -- a poll that has to wait arms where its direction had no waiter, or the last arm of its source had failed
  pub polled : (key : Key) (dir : Dir) (waker : Waker) (serial : ℕ) → s ≡ step.Poll key dir waker → serial_of w key.0 ≡ Some serial
      → has_to_wait told ≡ true → calls ≡ arms_where (has_to_arm w serial dir)
  pub listened : (number : ℕ) (waker : Waker) (l : ListenerEntry) → s ≡ step.StepEar number waker → find (is_listener number) w.listeners ≡ Some l
      → has_to_wait told ≡ true → calls ≡ arms_where (has_to_arm w l.serial l.dir)
  -- a handled event arms where its source has a waiter left
  pub handled : (key : Key) (failed : Bool) (serial : ℕ) → s ≡ step.Handle → told ≡ answer.Handled key failed → serial_of w key.0 ≡ Some serial
      → calls ≡ arms_where (not (is_empty_list (wanted v serial)))
  -- and never where no source has its key
  pub dropped : (key : Key) (failed : Bool) → s ≡ step.Handle → told ≡ answer.Handled key failed → serial_of w key.0 ≡ None → calls ≡ []

-- A wait that gave events leaves the key of each of them armed in no direction, for the poller has cleared its interest. So a waiter that is left there
-- is armed for by a later call alone.
abbrev pub IsCleared : Step → List PollerAnswer → Answer → List ArmedDirection → Type 0
IsCleared step.Wait answers (answer.Given count) armed =
    (event : Event) (dir : Dir) → Contains (events_given (next_answer answers)) event → is_armed armed event.key.0 dir ≡ false
IsCleared s answers told armed = Unit {0}

-- whether the answer of a step that makes one call of the poller or none tells that this failed
abbrev pub tells_failure : Answer → Bool
tells_failure answer.FaultAdd = true
tells_failure answer.FaultRemove = true
tells_failure answer.FaultArm = true
tells_failure answer.FaultWait = true
tells_failure (answer.Handled key failed) = failed
tells_failure _ = false

-- whether such a step made a call that failed: it made one, and the poller's next answer is a failure
abbrev pub has_failed : List Which → List PollerAnswer → Bool
has_failed [] answers = false
has_failed (call ∷ calls) answers = fails (next_answer answers)

-- whether one of these arms failed, each of which took the poller's next answer
abbrev pub arm_failed : List Which → List PollerAnswer → Bool
arm_failed [] answers = false
arm_failed (arm ∷ arms) answers = fails (next_answer answers) || arm_failed arms (later_answers answers)

-- How a whole round of these calls ends: its wait failed, or else one of the arms behind it did, or none of them failed.
abbrev pub end_of_calls : List Which → List PollerAnswer → EndWord
end_of_calls [] answers = Clean
end_of_calls (call ∷ arms) answers =
    if fails (next_answer answers) then FaultWait else if arm_failed arms (later_answers answers) then FaultArm else Clean

-- A whole round that ran tells how its calls went, and arms at most once for each event that its wait gave.
abbrev pub EndFits : Step → List PollerAnswer → Answer → List Which → Type 0
EndFits step.React answers (answer.Round number events end) calls = (end ≡ end_of_calls calls answers) × (length calls ≤ events + 1)
EndFits s answers told calls = Unit {0}

-- A whole round that made no arm leaves armed what was armed before it, but for the keys of the events that its wait gave.
abbrev pub OnlyCleared : Step → List PollerAnswer → Answer → List Which → List ArmedDirection → List ArmedDirection → Type 0
OnlyCleared step.React answers (answer.Round number events end) calls before after =
    calls ≡ which.Wait ∷ [] → after ≡ clear_armed before (events_given (next_answer answers))
OnlyCleared s answers told calls before after = Unit {0}

-- Each of these calls took the poller's next answer, and all others are left.
abbrev pub LeavesOthers : List Which → (answers left : List PollerAnswer) → Type 0
LeavesOthers calls answers left = (left ≡ drop (length calls) answers)

pub record CallsFollow (w : World) (s : Step) (answers : List PollerAnswer) (told : Answer) (calls : List Which) (v : World) : Type 0 where
  pub fit : CallsFit s told calls
  -- where the poller is not called, what is armed stays so, and nothing else is
  pub silent : calls ≡ [] → v.armed ≡ w.armed
  pub cleared : IsCleared s answers told v.armed
  -- a poll and a handled event arm where they have to
  pub needed : ArmsAsNeeded w s told calls v
  -- a step that is no whole round tells a failure exactly where its call failed
  pub heard : s ≢ step.React → tells_failure told ≡ has_failed calls answers
  -- and a call that failed changes no interest
  pub stays : s ≢ step.React → tells_failure told ≡ true → v.armed ≡ w.armed
  -- a whole round tells by its end whether its wait or one of its arms failed
  pub ended : EndFits s answers told calls
  -- and remembers nothing as armed where it made no arm
  pub unarmed : OnlyCleared s answers told calls w.armed v.armed
  -- what is armed is what was asked for
  pub interests : InterestsFollow w s answers told calls v
