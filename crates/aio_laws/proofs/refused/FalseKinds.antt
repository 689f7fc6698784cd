-- A wrong step of each kind, each refused by a law of a step.
use Rattle.std.proofs.Common.{◌≡◌, ℕ, ◌<◌, true, List, [], ◌∷◌, None, Some, refl, ap, ◌∙◌, sym, ⊎_elim, arith}
use Rattle.std.specs.List.{Contains}
use Rattle.aio_base.specs.declared.names.Waker.{Waker}
use Rattle.aio_base.specs.declared.names.Dir.TheVariants.{Read, Write}
use Rattle.aio_base.specs.declared.outcomes.EndWord.TheVariants.{Clean, FaultWait, FaultArm}
use Rattle.aio_base.specs.declared.outcomes.Which.TheVariants as which
use Rattle.aio_base.specs.declared.steps.Step.TheVariants as step
use Rattle.aio_base.specs.declared.steps.Answer.{Answer}
use Rattle.aio_base.specs.declared.steps.Answer.TheVariants as answer
use Rattle.aio_base.specs.World.{PollerAnswer, Gives, Fails, ListenerEntry, Registration, TimerEntry, World, opening}
use Rattle.aio_laws.specs.Between.{RegistrationsFollow}
use Rattle.aio_laws.specs.Calls.{CallsFollow}
use Rattle.aio_laws.specs.Others.{OthersStand}
use Rattle.aio_laws.specs.Own.{ComesFrom, Stood, FirstPolled, Made, Keeping, KeepsItsOwn}
use Rattle.aio_laws.specs.RoundCounts.{RoundsFollow}
use Rattle.aio_laws.specs.RoundHands.{HandFollows}
use Rattle.aio_base.proofs.Membership.{none_is_in, first_is_in, among_cases}
use Rattle.aio_laws.proofs.refused.FalseNotes.{task, key, readable, round, waiting, running}

apart : (m n : ℕ) → m < n → m ≡ n → ⊥
apart m n less same = absurd (omega arith)

some_number : (m n : ℕ) → Some m ≡ Some n → m ≡ n
some_number m n same = cc

some_waker : (a b : Waker) → Some a ≡ Some b → a ≡ b
some_waker a b same = cc

-- the reader of source 0 is armed for
abbrev armed : World
armed = record waiting { armed = record { key = 0; dir = Read } ∷ [] }

-- ## Sources

-- `add`: the new source is broken from the start
pub a_source_that_is_added_broken_is_refused : (answers : List PollerAnswer)
    → OthersStand waiting step.Add answers (record waiting { pos = 5; broken = record { serial = 3; position = 4 } ∷ [] }) → ⊥
a_source_that_is_added_broken_is_refused answers o = let wrong = o.broken in cc

-- `del`: the event in hand of its source is dropped with it, and the round is not told
pub an_event_dropped_with_its_source_is_refused : (answers : List PollerAnswer)
    → HandFollows (running (readable 0 ∷ [])) (step.Del (key 0)) answers answer.Gone (record (running []) { pos = 5 }) → ⊥
an_event_dropped_with_its_source_is_refused answers h = let wrong : [] ≡ readable 0 ∷ [] = h.hand in cc

-- `poll`: one that is ready arms its source
pub a_ready_poll_that_arms_is_refused : (answers : List PollerAnswer) (v : World)
    → CallsFollow waiting (step.Poll (key 0) Read (task 7)) answers answer.Ready (which.Arm ∷ []) v → ⊥
a_ready_poll_that_arms_is_refused answers v c = let wrong = c.fit in cc

-- ## Listeners

-- `new`: the direction counts as armed for a listener that nobody has polled
pub a_new_listener_that_is_armed_for_is_refused : (answers : List PollerAnswer)
    → CallsFollow waiting (step.New (key 1) Write) answers (answer.Listener 1) [] (record waiting { pos = 5; armed = record { key = 1; dir = Write } ∷ [] }) → ⊥
a_new_listener_that_is_armed_for_is_refused answers c = let wrong = c.silent refl in cc

abbrev listener : ℕ → ListenerEntry
listener position = record { number = 1; serial = 1; dir = Read; position = Some position; waker = None }

-- what is in a list of one
only : {X : Type 0} (x y : X) → Contains (x ∷ []) y → x ≡ y
only x y among = ⊎_elim (λ (same : x ≡ y). same) (λ (none : Contains [] y). none_is_in y none) (among_cases x [] y among)

-- `step`: a later poll of a listener moves its position, past an event that was handled since its first one
moved : (l : ListenerEntry) → l.position ≡ Some 4 → ComesFrom (record waiting { listeners = listener 2 ∷ [] }) (step.StepEar 1 (task 8)) l → ⊥
moved l at (Stood old among same) =
    let was : old.position ≡ Some 2 = sym (ap (λ (x : ListenerEntry). x.position) (only (listener 2) old among)) in
    apart 2 4 (omega arith) (some_number 2 4 (sym was ∙ ap (λ (x : ListenerEntry). x.position) same ∙ at))
moved l at (FirstPolled old among none polls same) =
    let was : old.position ≡ Some 2 = sym (ap (λ (x : ListenerEntry). x.position) (only (listener 2) old among)) in
    let wrong : None ≡ Some 2 = sym none ∙ was in cc
moved l at (Made made dir serial is live entry) = let wrong : step.StepEar 1 (task 8) ≡ step.New made dir = is in cc

pub a_position_moved_by_a_later_poll_is_refused : (told : Answer)
    → KeepsItsOwn (record waiting { listeners = listener 2 ∷ [] }) (step.StepEar 1 (task 8)) told (record waiting { pos = 5; listeners = listener 4 ∷ [] }) → ⊥
a_position_moved_by_a_later_poll_is_refused told k = moved (listener 4) refl (k.listeners (listener 4) (first_is_in (listener 4) []))

-- `drop`: the direction of the listener is armed no longer, though a task waits there
pub a_drop_that_disarms_is_refused : (answers : List PollerAnswer)
    → CallsFollow armed (step.DropEar 1) answers answer.Dropped [] (record waiting { pos = 5 }) → ⊥
a_drop_that_disarms_is_refused answers c = let wrong = c.silent refl in cc

-- ## Timers

abbrev registration : ℕ → ℕ → Registration
registration id deadline = record { id = id; deadline = deadline; waker = task 7 }

-- `timer`: a new timer takes the registration of another out
pub a_registration_lost_to_a_new_timer_is_refused :
    RegistrationsFollow (record opening { registrations = registration 1 50 ∷ []; ids_drawn = 1 }) (step.TimerAt 60) (record opening { pos = 1; ids_drawn = 1 }) → ⊥
a_registration_lost_to_a_new_timer_is_refused r = let wrong : [] ≡ registration 1 50 ∷ [] = r.none (λ passes. passes) in cc

-- a timer with this period, which keeps this id and the waker 7
abbrev periodic : ℕ → ℕ → TimerEntry
periodic deadline id = record { number = 1; deadline = Some deadline; period = Some 10; id = Some id; kept = Some (task 7) }

abbrev timed : TimerEntry → World
timed t = record opening { pos = 3; now = 60; timers = t ∷ []; timers_made = 1; ids_drawn = 1 }

-- `tick`: a periodic timer that has fired keeps its old id, under which no registration is for its next deadline
pub an_id_kept_past_its_deadline_is_refused :
    KeepsItsOwn (timed (periodic 60 1)) (step.Tick 1 (task 7)) (answer.ReadyAt 60) (record (timed (periodic 70 1)) { pos = 4 }) → ⊥
an_id_kept_past_its_deadline_is_refused k =
    apart 1 2 (omega arith) (some_number 1 2 (ap (λ (x : Keeping). x.id) (k.keeps 1 (periodic 60 1) (periodic 70 1) refl refl)))

-- and a timer that waits, and is polled with another waker, keeps the one that it had
pub a_waker_kept_before_another_is_refused :
    KeepsItsOwn (timed (periodic 90 1)) (step.Tick 1 (task 8)) answer.Pending (record (timed (periodic 90 2)) { pos = 4; ids_drawn = 2 }) → ⊥
a_waker_kept_before_another_is_refused k =
    let kept = some_waker (task 7) (task 8) (ap (λ (x : Keeping). x.waker) (k.keeps 1 (periodic 90 1) (periodic 90 2) refl refl)) in
    apart 7 8 (omega arith) (ap (λ (w : Waker). w.0) kept)

-- `set at`: a timer whose registration a pass took forgets the waker that it kept, and is registered no more
pub a_waker_forgotten_by_a_set_is_refused :
    KeepsItsOwn (timed (periodic 50 1)) (step.SetAt 1 90) answer.Set (record (timed (record (periodic 90 1) { id = None; kept = None })) { pos = 4 }) → ⊥
a_waker_forgotten_by_a_set_is_refused k =
    let kept : None ≡ Some (task 7) = ap (λ (x : Keeping). x.waker) (k.keeps 1 (periodic 50 1) (record (periodic 90 1) { id = None; kept = None }) refl refl) in cc

-- `set every`: a timer stays registered under its old id
pub an_id_kept_by_a_set_is_refused :
    KeepsItsOwn (timed (periodic 90 1)) (step.SetEvery 1 95 10) answer.Set (record (timed (periodic 95 1)) { pos = 4 }) → ⊥
an_id_kept_by_a_set_is_refused k =
    apart 1 2 (omega arith) (some_number 1 2 (ap (λ (x : Keeping). x.id) (k.keeps 1 (periodic 90 1) (periodic 95 1) refl refl)))

-- ## The clock and the poller's notes

-- `now`: the running round is over
pub a_round_ended_by_the_clock_is_refused : (answers : List PollerAnswer) (told : Answer)
    → RoundsFollow (running []) (step.Now 5) answers told (record waiting { pos = 5; now = 5 }) → ⊥
a_round_ended_by_the_clock_is_refused answers told f = let wrong = f.running in cc

-- `event`: the poller notes it, and its key counts as armed no longer
pub an_interest_lost_to_a_noted_event_is_refused : (answers : List PollerAnswer)
    → CallsFollow armed (step.Note (readable 0)) answers answer.Noted [] (record waiting { pos = 5; noted = readable 0 ∷ [] }) → ⊥
an_interest_lost_to_a_noted_event_is_refused answers c = let wrong = c.silent refl in cc

-- `fault`: the source that waits counts as broken before an arm has failed
pub a_source_broken_by_a_noted_fault_is_refused : (answers : List PollerAnswer)
    → OthersStand waiting (step.Fault which.Arm) answers (record waiting { pos = 5; broken = record { serial = 1; position = 4 } ∷ [] }) → ⊥
a_source_broken_by_a_noted_fault_is_refused answers o = let wrong = o.broken in cc

-- `interrupt`: the running round counts its last wait as interrupted
pub a_wait_interrupted_behind_it_is_refused : (answers : List PollerAnswer)
    → HandFollows (record waiting { round = Some (record (round 2 []) { last_wait = Some (Gives []) }) }) step.Interrupt answers answer.Noted
    (record waiting { pos = 5; round = Some (record (round 2 []) { last_wait = None }) }) → ⊥
a_wait_interrupted_behind_it_is_refused answers h = let wrong : None ≡ Some (Gives []) = h.waited in cc

-- ## Rounds

-- `begin`: what is armed is forgotten
pub an_interest_forgotten_at_a_begin_is_refused : (answers : List PollerAnswer)
    → CallsFollow armed (step.Begin None) answers (answer.Begin 1 None) [] (record (running []) { pos = 5 }) → ⊥
an_interest_forgotten_at_a_begin_is_refused answers c = let wrong = c.silent refl in cc

-- `wait`: one that gave no event is not remembered, and the round ends without its second pass
pub a_wait_that_is_forgotten_is_refused :
    HandFollows (running []) step.Wait (Gives [] ∷ []) (answer.Given 0) (record (running []) { pos = 5 }) → ⊥
a_wait_that_is_forgotten_is_refused h = let wrong : None ≡ Some (Gives []) = h.waited in cc

-- `handle`: the fault of an arm is kept in place of that of the wait before it
pub a_first_fault_that_is_replaced_is_refused :
    HandFollows (record waiting { round = Some (record (round 2 (readable 0 ∷ [])) { fault = FaultWait }) }) step.Handle (Fails ∷ []) (answer.Handled (key 0) true)
    (record waiting { pos = 5; round = Some (record (round 2 []) { fault = FaultArm }) }) → ⊥
a_first_fault_that_is_replaced_is_refused h = let wrong : FaultArm ≡ FaultWait = h.fault in cc

-- `finish`: the round that ends is counted once more
pub a_round_counted_at_its_end_is_refused : (answers : List PollerAnswer)
    → RoundsFollow (record (running []) { rounds = 1 }) step.Finish answers (answer.End Clean) (record waiting { pos = 5; rounds = 2 }) → ⊥
a_round_counted_at_its_end_is_refused answers f = apart 1 2 (omega arith) (sym f.rounds)

-- `react`: the round is told as ended, and runs on
pub a_whole_round_that_runs_on_is_refused : (answers : List PollerAnswer)
    → RoundsFollow waiting step.React answers (answer.Round 1 0 Clean) (record (running []) { pos = 5; rounds = 1; begun = 4 ∷ [] }) → ⊥
a_whole_round_that_runs_on_is_refused answers f = let wrong = f.running in cc
