-- Interests that a wrong machine remembers as armed, or forgets, each refused by the law of what a step leaves armed.
use Rattle.std.proofs.Common.{◌≡◌, ◌≤◌, ℕ, true, false, List, [], ◌∷◌, length, Some, refl, ap, ◌∙◌, sym, ⊎_elim, arith}
use Rattle.std.specs.List.{Contains}
use Rattle.aio_base.specs.declared.names.Dir.{Dir}
use Rattle.aio_base.specs.declared.names.Dir.TheVariants.{Read, Write}
use Rattle.aio_base.specs.declared.names.Event.{Event}
use Rattle.aio_base.specs.declared.outcomes.EndWord.TheVariants.{Clean, FaultArm}
use Rattle.aio_base.specs.declared.outcomes.Which.TheVariants as which
use Rattle.aio_base.specs.declared.steps.Step.TheVariants as step
use Rattle.aio_base.specs.declared.steps.Answer.TheVariants as answer
use Rattle.aio_base.specs.World.{Succeeds, Gives, IsInterrupted, Fails, ArmedDirection, PollWaiter, World, is_idle}
use Rattle.aio_laws.specs.Interests.{IsArmedIn, NoneOf, IsWaitedFor, InterestsFollow}
use Rattle.aio_base.proofs.Membership.{none_is_in, first_is_in, later_is_in, among_cases}
use Rattle.aio_laws.proofs.refused.FalseNotes.{task, key, readable, waiting, running}

abbrev interest : ℕ → Dir → ArmedDirection
interest number dir = record { key = number; dir = dir }

abbrev waiter : ℕ → Dir → PollWaiter
waiter serial dir = record { serial = serial; dir = dir; waker = task 7 }

-- the world after a step that left these interests armed
abbrev armed : List ArmedDirection → World
armed interests = record waiting { pos = 5; armed = interests }

some_is : (m n : ℕ) → Some m ≡ Some n → m ≡ n
some_is m n same = cc

-- ## One source

-- a poll of the reader arms its source, and writability is remembered as armed: nobody waits for it
pub an_interest_of_nobody_is_refused :
    InterestsFollow waiting (step.Poll (key 0) Read (task 7)) (Succeeds ∷ []) answer.Pending (which.Arm ∷ []) (armed (interest 0 Write ∷ interest 0 Read ∷ [])) → ⊥
an_interest_of_nobody_is_refused i =
    let set = i.polled (key 0) Read (task 7) 1 refl refl refl refl in
    let wrong : true ≡ false = (set.own Write).0 (first_is_in (interest 0 Write) (interest 0 Read ∷ [])) in cc

-- it arms another source beside its own
pub an_interest_of_another_source_is_refused :
    InterestsFollow waiting (step.Poll (key 0) Read (task 7)) (Succeeds ∷ []) answer.Pending (which.Arm ∷ []) (armed (interest 0 Read ∷ interest 1 Read ∷ [])) → ⊥
an_interest_of_another_source_is_refused i =
    let set = i.polled (key 0) Read (task 7) 1 refl refl refl refl in
    none_is_in (interest 1 Read)
    ((set.others 1 Read (λ same. absurd (omega arith))).0 (later_is_in (interest 0 Read) (interest 1 Read ∷ []) (interest 1 Read) (first_is_in (interest 1 Read) [])))

-- an event is handled, its source is armed again for the reader who is left, and its interest is forgotten
pub an_interest_forgotten_at_its_arm_is_refused :
    InterestsFollow (running (readable 0 ∷ [])) step.Handle (Succeeds ∷ []) (answer.Handled (key 0) false) (which.Arm ∷ []) (armed []) → ⊥
an_interest_forgotten_at_its_arm_is_refused i =
    let set = i.handled (key 0) 1 refl refl refl refl in none_is_in (interest 0 Read) ((set.own Read).1 refl)

-- a source is taken out, and its interest stays: the next source of its key is armed from the start
pub an_interest_of_a_source_that_is_gone_is_refused :
    InterestsFollow (record waiting { armed = interest 0 Read ∷ [] }) (step.Del (key 0)) (Succeeds ∷ []) answer.Gone (which.Remove ∷ [])
    (record waiting { pos = 5; live = []; armed = interest 0 Read ∷ [] }) → ⊥
an_interest_of_a_source_that_is_gone_is_refused i =
    let set = i.removed (key 0) refl refl in (set.own Read).0 (first_is_in (interest 0 Read) [])

-- a wait gives an event of one source, and the interest of another is forgotten
pub an_interest_lost_in_a_wait_is_refused :
    InterestsFollow (record (running []) { armed = interest 1 Read ∷ [] }) step.Wait (Gives (readable 0 ∷ []) ∷ []) (answer.Given 1) (which.Wait ∷ [])
    (record (running (readable 0 ∷ [])) { pos = 5; armed = [] }) → ⊥
an_interest_lost_in_a_wait_is_refused i =
    none_is_in (interest 1 Read)
    ((i.given 1 refl refl 1 Read).1 (
      first_is_in (interest 1 Read) [],
      λ event here same.
          ⊎_elim (λ (first : readable 0 ≡ event). let wrong : 0 ≡ 1 = ap (λ (e : Event). e.key.0) first ∙ same in absurd (omega arith))
          (λ (none : Contains [] event). none_is_in event none) (among_cases (readable 0) [] event here),
    ))

-- a wait is interrupted, and an interest is forgotten that a waiter needs
pub an_interest_lost_in_an_interrupted_wait_is_refused :
    InterestsFollow (record (running []) { armed = interest 0 Read ∷ [] }) step.Wait (IsInterrupted ∷ []) answer.Interrupted (which.Wait ∷ [])
    (record (running []) { pos = 5; armed = [] }) → ⊥
an_interest_lost_in_an_interrupted_wait_is_refused i = let wrong = i.interrupted refl refl in cc

-- it arms a source for which nobody waits
pub an_interest_made_in_an_interrupted_wait_is_refused :
    InterestsFollow (running []) step.Wait (IsInterrupted ∷ []) answer.Interrupted (which.Wait ∷ []) (record (running []) { pos = 5; armed = interest 1 Write ∷ [] }) → ⊥
an_interest_made_in_an_interrupted_wait_is_refused i = let wrong = i.interrupted refl refl in cc

-- ## A whole round

-- two keys are not among one
two_among_one : (keys : List ℕ) → length keys ≤ 1 → ((Contains keys 0 → ⊥) → ⊥) → ((Contains keys 1 → ⊥) → ⊥) → ⊥
two_among_one [] few zero one = zero (λ none. none_is_in 0 none)
two_among_one (k ∷ []) few zero one =
    let only : (n : ℕ) → Contains (k ∷ []) n → k ≡ n =
    λ n here. ⊎_elim (λ (same : k ≡ n). same) (λ (none : Contains [] n). none_is_in n none) (among_cases k [] n here) in
    zero (λ first. one (λ second. let wrong : 0 ≡ 1 = sym (only 0 first) ∙ only 1 second in absurd (omega arith)))
two_among_one (k ∷ l ∷ keys) few zero one = absurd (omega arith)

-- two writers wait
abbrev writers : World
writers = record waiting { poll_waiters = waiter 1 Write ∷ waiter 2 Write ∷ [] }

-- a whole round gave an event of each of two sources and armed once, and both are remembered as armed: the second writer sleeps on
pub a_second_source_armed_without_an_arm_is_refused :
    InterestsFollow writers step.React (Gives (readable 0 ∷ readable 1 ∷ []) ∷ Succeeds ∷ []) (answer.Round 1 2 Clean) (which.Wait ∷ which.Arm ∷ [])
    (record writers { pos = 5; rounds = 1; armed = interest 0 Write ∷ interest 1 Write ∷ [] }) → ⊥
a_second_source_armed_without_an_arm_is_refused i =
    let r = i.round refl refl in
    let second : Contains (interest 0 Write ∷ interest 1 Write ∷ []) (interest 1 Write) =
    later_is_in (interest 0 Write) (interest 1 Write ∷ []) (interest 1 Write) (first_is_in (interest 1 Write) []) in
    two_among_one r.keys r.asked (λ other. none_is_in (interest 0 Write) ((r.others 0 Write other).0 (first_is_in (interest 0 Write) (interest 1 Write ∷ []))).0)
    (λ other. none_is_in (interest 1 Write) ((r.others 1 Write other).0 second).0)

-- so it is where the second arm failed
pub a_source_armed_by_a_failed_arm_is_refused :
    InterestsFollow writers step.React (Gives (readable 0 ∷ readable 1 ∷ []) ∷ Succeeds ∷ Fails ∷ []) (answer.Round 1 2 FaultArm) (which.Wait ∷ which.Arm ∷ which.Arm ∷ [])
    (record writers { pos = 5; rounds = 1; armed = interest 0 Write ∷ interest 1 Write ∷ [] }) → ⊥
a_source_armed_by_a_failed_arm_is_refused i =
    let r = i.round refl refl in
    let second : Contains (interest 0 Write ∷ interest 1 Write ∷ []) (interest 1 Write) =
    later_is_in (interest 0 Write) (interest 1 Write ∷ []) (interest 1 Write) (first_is_in (interest 1 Write) []) in
    two_among_one r.keys r.asked (λ other. none_is_in (interest 0 Write) ((r.others 0 Write other).0 (first_is_in (interest 0 Write) (interest 1 Write ∷ []))).0)
    (λ other. none_is_in (interest 1 Write) ((r.others 1 Write other).0 second).0)

-- a whole round arms its source for readability, for which nobody waited
pub an_interest_of_nobody_in_a_whole_round_is_refused :
    InterestsFollow writers step.React (Gives (readable 0 ∷ []) ∷ Succeeds ∷ []) (answer.Round 1 1 Clean) (which.Wait ∷ which.Arm ∷ [])
    (record writers { pos = 5; rounds = 1; armed = interest 0 Read ∷ [] }) → ⊥
an_interest_of_nobody_in_a_whole_round_is_refused i =
    let r = i.round refl refl in
    ⊎_elim (λ (stood : IsArmedIn [] 0 Read × NoneOf (readable 0 ∷ []) 0). none_is_in (interest 0 Read) stood.0)
    (λ (waited : IsWaitedFor writers 0 Read).
    let serial : 1 ≡ waited.0 = some_is 1 waited.0 waited.1 in
    let wrong : true ≡ false = ap (λ n. is_idle writers n Read) serial ∙ waited.2 in absurd cc) (r.waited 0 Read (first_is_in (interest 0 Read) []))
