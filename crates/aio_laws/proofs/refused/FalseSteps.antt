-- Steps of wrong machines, each refused by a law of a step.
use Rattle.std.proofs.Common.{◌≡◌, ℕ, ◌<◌, List, [], ◌∷◌, None, Some, refl, ap, ◌∙◌, sym, arith}
use Rattle.aio_base.specs.declared.names.Dir.TheVariants.{Read}
use Rattle.aio_base.specs.declared.names.Event.{Event}
use Rattle.aio_base.specs.declared.steps.Step.TheVariants as step
use Rattle.aio_base.specs.declared.steps.Answer.{Answer}
use Rattle.aio_base.specs.declared.steps.Answer.TheVariants as answer
use Rattle.aio_base.specs.declared.outcomes.EndWord.TheVariants.{Clean}
use Rattle.aio_base.specs.World.{PollerAnswer, ListenerEntry, TimerEntry, RoundState, World, opening}
use Rattle.aio_laws.specs.RoundCounts.{RoundName, RoundsFollow}
use Rattle.aio_laws.specs.Clock.{ClockIsSet}
use Rattle.aio_laws.specs.Others.{OthersStand}

-- a round of this number that began at this position, with these events in hand
abbrev round : ℕ → ℕ → List Event → RoundState
round number begin hand = record { number = number; begin = begin; limit = None; in_hand = hand; taken = []; last_wait = None; fault = Clean }

named : (a b : RoundName) → Some a ≡ Some b → (a.number ≡ b.number) × (a.begin ≡ b.begin)
named a b same = let one : a ≡ b = cc in (ap (λ (n : RoundName). n.number) one, ap (λ (n : RoundName). n.begin) one)

apart : (m n : ℕ) → m < n → m ≡ n → ⊥
apart m n less same = absurd (omega arith)

-- ## Rounds

-- a round begins under the number of an earlier one
pub a_round_number_given_again_is_refused : (answers : List PollerAnswer) (told : Answer)
    → RoundsFollow (record opening { rounds = 3 }) (step.Begin None) answers told
    (record opening { pos = 1; rounds = 4; begun = 0 ∷ []; round = Some (round 1 0 []) }) → ⊥
a_round_number_given_again_is_refused answers told f = apart 1 4 (omega arith) (named _ _ f.running).0

-- a round begins and is not counted
pub a_round_that_is_not_counted_is_refused : (answers : List PollerAnswer) (told : Answer)
    → RoundsFollow (record opening { rounds = 3 }) (step.Begin None) answers told
    (record opening { pos = 1; rounds = 3; begun = 0 ∷ []; round = Some (round 4 0 []) }) → ⊥
a_round_that_is_not_counted_is_refused answers told f = apart 3 4 (omega arith) f.rounds

-- a round begins at another position than its step's
pub a_round_that_begins_elsewhere_is_refused : (answers : List PollerAnswer) (told : Answer)
    → RoundsFollow (record opening { pos = 5 }) (step.Begin None) answers told
    (record opening { pos = 6; rounds = 1; begun = 5 ∷ []; round = Some (round 1 2 []) }) → ⊥
a_round_that_begins_elsewhere_is_refused answers told f = apart 2 5 (omega arith) (named _ _ f.running).1

-- a wait changes the number of its round
pub a_round_that_changes_its_number_is_refused : (answers : List PollerAnswer) (told : Answer)
    → RoundsFollow (record opening { rounds = 2; round = Some (round 2 0 []) }) step.Wait answers told
    (record opening { pos = 1; rounds = 2; round = Some (round 1 0 []) }) → ⊥
a_round_that_changes_its_number_is_refused answers told f = apart 1 2 (omega arith) (named _ _ f.running).0

-- ## The clock

-- a step that is no `now` moves the clock
pub a_clock_moved_by_another_step_is_refused : (told : Answer) → ClockIsSet opening step.Add told (record opening { pos = 1; now = 5 }) → ⊥
a_clock_moved_by_another_step_is_refused told c = let same : 5 ≡ 0 = c.now in absurd (omega arith)

-- a `now` is answered with its moment, and the clock stays
pub a_now_that_sets_nothing_is_refused : ClockIsSet opening (step.Now 5) (answer.At 5) (record opening { pos = 1 }) → ⊥
a_now_that_sets_nothing_is_refused c = let same : 0 ≡ 5 = c.now in absurd (omega arith)

-- ## Sources, listeners and timers of others

-- a live source whose reader waits since position 1
abbrev waiting : World
waiting = record opening {
  pos = 4;
  live = record { key = 0; serial = 1 } ∷ [];
  serials = 1;
  poll_waiters = record { serial = 1; dir = Read; waker = record { 0 = 7 } } ∷ [];
  marks = record { serial = 1; dir = Read; position = 1 } ∷ [];
}

-- a `now` loses a source
pub a_source_lost_by_another_step_is_refused : (answers : List PollerAnswer)
    → OthersStand waiting (step.Now 3) answers (record waiting { pos = 5; now = 3; live = [] }) → ⊥
a_source_lost_by_another_step_is_refused answers o = let same : [] ≡ record { key = 0; serial = 1 } ∷ [] = o.sources in cc

abbrev listener : ℕ → ℕ → ListenerEntry
listener number position = record { number = number; serial = 1; dir = Read; position = Some position; waker = None }

-- a drop of a listener takes another one with it
pub a_listener_lost_with_another_is_refused : (answers : List PollerAnswer)
    → OthersStand (record waiting { listeners = listener 1 2 ∷ listener 2 3 ∷ [] }) (step.DropEar 1) answers (record waiting { pos = 5; listeners = [] }) → ⊥
a_listener_lost_with_another_is_refused answers o = let same : [] ≡ listener 2 3 ∷ [] = o.listeners in cc

abbrev timer : ℕ → ℕ → TimerEntry
timer number deadline = record { number = number; deadline = Some deadline; period = None; id = None; kept = None }

dated : (a b : TimerEntry) (m n : ℕ) → a ∷ [] ≡ b ∷ [] → a.deadline ≡ Some m → b.deadline ≡ Some n → m ≡ n
dated a b m n same first second =
    let one : a ≡ b = cc in
    let both : Some m ≡ Some n = sym first ∙ ap (λ (t : TimerEntry). t.deadline) one ∙ second in
    cc

-- a set changes the deadline of another timer
pub a_deadline_of_another_timer_is_refused : (answers : List PollerAnswer)
    → OthersStand (record opening { timers = timer 1 5 ∷ timer 2 6 ∷ []; timers_made = 2 }) (step.SetAt 1 9) answers
    (record opening { pos = 1; timers = timer 1 9 ∷ timer 2 9 ∷ []; timers_made = 2 }) → ⊥
a_deadline_of_another_timer_is_refused answers o =
    apart 6 9 (omega arith) (sym (dated (timer 2 9) (timer 2 6) 9 6 o.timers refl refl))
